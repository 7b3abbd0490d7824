use Rattle.wal_lanes.proofs.LaneLemmas.{eight_words}
use Rattle.wal_lanes.proofs.block.initial.Goals as goal

pub returns : goal.returns
returns c k l =
    eight_words (c.splat.ensures.each k l) (c.splat-2.ensures.each k l) (c.splat-3.ensures.each k l) (c.splat-4.ensures.each k l)
    (c.splat-5.ensures.each k l) (c.splat-6.ensures.each k l) (c.splat-7.ensures.each k l) (c.splat-8.ensures.each k l)
