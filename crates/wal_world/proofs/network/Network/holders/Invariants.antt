use Rattle.wal_world.proofs.Common.{◌≡◌, ◌≤◌, count_below, world_of, settled_in, side_of}
use Rattle.wal_world.proofs.network.Network.holders.Given as goal

abbrev pub invariant-loop-shard : goal.invariant-loop-shard
invariant-loop-shard g l = record {
  low : l.count ≤ l.shard;
  is : l.count ≡ count_below l.shard (settled_in (side_of l.home (world_of l.self)) l.id);
}
