use Rattle.wal_lanes.proofs.LaneLemmas.{eight_words}
use Rattle.wal_lanes.proofs.block.added.Goals as goal

pub returns : goal.returns
returns c k l =
    eight_words (c.sum.ensures.each k l) (c.sum-2.ensures.each k l) (c.sum-3.ensures.each k l) (c.sum-4.ensures.each k l)
    (c.sum-5.ensures.each k l) (c.sum-6.ensures.each k l) (c.sum-7.ensures.each k l) (c.sum-8.ensures.each k l)
