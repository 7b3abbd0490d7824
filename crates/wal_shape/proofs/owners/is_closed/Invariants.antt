use Rattle.wal_shape.proofs.Common.{◌≡◌, true, not, ◌||◌, among, every_below, has_neighbour}
use Rattle.wal_shape.proofs.owners.is_closed.Given as goal

abbrev pub invariant-loop-shard : goal.invariant-loop-shard
invariant-loop-shard l = every_below l.shard (λ shard. not (has_neighbour l.owners l.shards shard) || among l.shards shard) ≡ true
