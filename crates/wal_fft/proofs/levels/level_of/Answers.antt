use Rattle.wal_fft.proofs.Blocks.{next_level}
use Rattle.wal_fft.proofs.levels.level_of.Goals as goal

pub loop-level-preserved : goal.loop-level-preserved
loop-level-preserved c =
    next_level c.loop-level.level c.args.total c.points.result c.points.ensures.value c.loop-level-test.true c.requires
    c.loop-level.invariant.0 c.loop-level.invariant.1
