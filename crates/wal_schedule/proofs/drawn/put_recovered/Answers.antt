use Rattle.wal_schedule.proofs.Common.{recovered_by}
use Rattle.wal_schedule.proofs.Drawing.{pushed_pieces}
use Rattle.wal_schedule.proofs.drawn.put_recovered.Goals as goal

pub loop-shard-preserved : goal.loop-shard-preserved
loop-shard-preserved c = pushed_pieces (recovered_by c.args.axis c.args.blobs.now) _ _ _ c.loop-shard.shard c.loop-shard.invariant c.in_ok-put_recovered_by.ensures
