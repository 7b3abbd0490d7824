use Rattle.wal_world.proofs.Turning.{one_more}
use Rattle.wal_world.proofs.network.Network.next_shards.Goals as goal

pub loop-shard-preserved : goal.loop-shard-preserved
loop-shard-preserved g c =
    one_more _ _ c.loop-shard.shard c.loop-shard.shards.items c.push.new.self.items c.in_ok-next_shard.field-0 c.loop-shard.invariant c.in_ok-next_shard.ensures c.in_ok-push.ensures.items
