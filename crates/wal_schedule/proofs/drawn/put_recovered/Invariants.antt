use Rattle.wal_schedule.proofs.Common.{◌≡◌, ◌++◌, flat_map, range_with_len, recovered_by}
use Rattle.wal_schedule.proofs.drawn.put_recovered.Given as goal

abbrev pub invariant-loop-shard : goal.invariant-loop-shard
invariant-loop-shard l = l.events.items ≡ l.initial.events.items ++ flat_map (recovered_by l.axis l.blobs) (range_with_len 0 l.shard)
