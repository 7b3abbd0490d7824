use Rattle.wal_schedule.proofs.Common.{Ready}
use Rattle.wal_schedule.proofs.Drawing.{pushed_map}
use Rattle.wal_schedule.proofs.drawn.put_readies.Goals as goal

pub loop-shard-preserved : goal.loop-shard-preserved
loop-shard-preserved c = pushed_map (λ s. Ready s) _ _ _ c.loop-shard.shard c.loop-shard.invariant c.in_ok-add_event.ensures
