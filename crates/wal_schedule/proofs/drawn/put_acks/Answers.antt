use Rattle.wal_schedule.proofs.Common.{Ack}
use Rattle.wal_schedule.proofs.Drawing.{pushed_map}
use Rattle.wal_schedule.proofs.drawn.put_acks.Goals as goal

pub loop-shard-preserved : goal.loop-shard-preserved
loop-shard-preserved c = pushed_map (λ s. Ack s c.args.id) _ _ _ c.loop-shard.shard c.loop-shard.invariant c.in_ok-add_event.ensures
