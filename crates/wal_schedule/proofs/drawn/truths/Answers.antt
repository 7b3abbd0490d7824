use Rattle.wal_schedule.proofs.Common.{[], Now, Reply}
use Rattle.wal_schedule.proofs.Drawing.{pushed_map}
use Rattle.wal_schedule.proofs.drawn.truths.Goals as goal

pub loop-shard-preserved : goal.loop-shard-preserved
loop-shard-preserved c = pushed_map (λ s. Reply.True Now s) [] _ _ c.loop-shard.shard c.loop-shard.invariant c.in_ok-push.ensures.items
