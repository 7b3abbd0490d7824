use Rattle.wal_schedule.proofs.Common.{◌≡◌, ◌++◌, map, range_with_len, Ack}
use Rattle.wal_schedule.proofs.drawn.put_acks.Given as goal

abbrev pub invariant-loop-shard : goal.invariant-loop-shard
invariant-loop-shard l = l.events.items ≡ l.initial.events.items ++ map (λ s. Ack s l.id) (range_with_len 0 l.shard)
