use Rattle.wal_shard.proofs.Common.{rules, ◌≡◌, IsSome, [], length, unwrap_or, arith, crossing, part_of, parts_at, sliver_part, not_held, no_shard}
use Rattle.wal_shard.proofs.HeldLaws.{own_metadata, beside, sliver_fits}
use Rattle.wal_shard.proofs.ReplyLaws.{writes_none, too_many}
use Rattle.wal_shard.proofs.shard.Shard.reply_opening.Goals as goal

pub returns-then-from-self-clause-reply : goal.returns-then-from-self-clause-reply
returns-then-from-self-clause-reply g c =
    let sound = c.sound.ensures.sound c.args.id.now in
    let p = parts_at c.args.self.now.contents c.args.id.now in
    let some : IsSome (part_of p (sliver_part (crossing c.args.axis))) = search rules in
    let own = own_metadata _ _ _ _ _ sound (beside _ _ _ _ _ (crossing c.args.axis) sound some) in
    let many = too_many c.args.self.now.f own.0.f c.args.index own.1.faults (search rules) in
    ([], no_shard own.0 own.1.held many, writes_none c.args.self.now.index c.args.out.now)

pub load_sliver-requires-clause-most : goal.load_sliver-requires-clause-most
load_sliver-requires-clause-most g c =
    let axis = crossing c.args.axis in
    let p = parts_at c.args.self.now.contents c.args.id.now in
    let size : c.in-Some.size ≡ length (unwrap_or (part_of p (sliver_part axis)) []) = search rules in
    let sound = c.sound.ensures.sound c.args.id.now in
    rw c.requires.f (omega (arith, sliver_fits _ _ _ _ _ axis sound (search rules), size))

pub returns-in-None-clause-reply : goal.returns-in-None-clause-reply
returns-in-None-clause-reply g c = ([], not_held (search rules), writes_none c.args.self.now.index c.args.out.now)
