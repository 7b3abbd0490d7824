use Rattle.wal_lanes.proofs.Common.{refl, sym, rounds_first, lane, words_of}
use Rattle.wal_lanes.proofs.LaneLemmas.{word_of}
use Rattle.wal_lanes.proofs.block.first_step.Goals as goal

pub returns : goal.returns
returns c k l b h window held =
    rounds_first b h (words_of c.args.w.now k) (lane c.args.s k) c.args.t _ _ _ c.requires window held refl (sym (word_of c.args.w.now c.args.t k)) (c.round.ensures k l)
