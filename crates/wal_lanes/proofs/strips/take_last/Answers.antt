use Rattle.wal_lanes.proofs.Common.{◌*◌, length, refl, ◌∙◌, mul-le-mul_right}
use Rattle.wal_lanes.proofs.Taken.{strips_ended}
use Rattle.wal_lanes.proofs.strips.take_last.Goals as goal

pub returns-clause-digests : goal.returns-clause-digests
returns-clause-digests g c = λ prefix held.
    strips_ended prefix c.args.count (g.P.Pieces.size c.args.pieces.now) (g.P.Pieces.has c.args.pieces.now) (g.met.P.Pieces.sized c.args.pieces.now)
    c.args.seen c.args.long (8 * length c.args.groups.now * c.args.long) c.args.groups.now c.fill_front.new.strip _ c.end_strip.new.out
    c.requires.all c.fill_front.ensures.strip refl (mul-le-mul_right c.args.long c.requires.groups) (c.end_strip.ensures.long ∙ c.requires.room) c.end_strip.ensures.each held
