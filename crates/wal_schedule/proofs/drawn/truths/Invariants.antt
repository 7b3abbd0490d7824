use Rattle.wal_schedule.proofs.Common.{◌≡◌, map, range_with_len, Now, Reply}
use Rattle.wal_schedule.proofs.drawn.truths.Given as goal

abbrev pub invariant-loop-shard : goal.invariant-loop-shard
invariant-loop-shard l = l.replies.items ≡ map (λ s. Reply.True Now s) (range_with_len 0 l.shard)
