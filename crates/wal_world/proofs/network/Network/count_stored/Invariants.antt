-- How many of the shards so far hold what was sent to them.
use Rattle.wal_world.proofs.Common.{◌≡◌, ◌≤◌, take, messages_of, rules_of, world_of, stored_at}
use Rattle.wal_world.proofs.network.Network.count_stored.Given as goal

abbrev pub invariant-loop-shard : goal.invariant-loop-shard
invariant-loop-shard g l = record {
  low : l.count ≤ l.shard-index;
  is : l.count ≡ stored_at (rules_of g.H.Hash32.digest (world_of l.self).log.f) (world_of l.self) l.at (messages_of l.write) (take l.shard-index l.to) l.write.id;
}
