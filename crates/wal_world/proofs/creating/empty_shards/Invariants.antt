use Rattle.wal_world.proofs.Common.{◌≡◌, map, range_with_len, shard_with, no_entries}
use Rattle.wal_world.proofs.creating.empty_shards.Given as goal

abbrev pub invariant-loop-index : goal.invariant-loop-index
invariant-loop-index g l = l.shards.items ≡ map (shard_with l.f (λ s. no_entries)) (range_with_len 0 l.index)
