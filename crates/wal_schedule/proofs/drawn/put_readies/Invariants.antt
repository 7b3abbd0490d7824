use Rattle.wal_schedule.proofs.Common.{◌≡◌, ◌++◌, map, range_with_len, Ready}
use Rattle.wal_schedule.proofs.drawn.put_readies.Given as goal

abbrev pub invariant-loop-shard : goal.invariant-loop-shard
invariant-loop-shard l = l.events.items ≡ l.initial.events.items ++ map (λ s. Ready s) (range_with_len 0 l.shard)
