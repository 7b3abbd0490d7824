use Rattle.wal_shape.proofs.Common.{◌≡◌, ◌≤◌, drop, ascends_from}
use Rattle.wal_shape.proofs.owners.is_ascending.Given as goal

abbrev pub invariant-loop-shard : goal.invariant-loop-shard
invariant-loop-shard l = record {
  low : l.low ≤ 65536;
  is : ascends_from 0 l.n l.shards ≡ ascends_from l.low l.n (drop l.shard-index l.shard-items);
}
