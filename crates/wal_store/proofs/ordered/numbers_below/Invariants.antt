use Rattle.wal_store.proofs.Common.{◌≡◌, ◌≤◌, vec_len, vec_capacity, range_with_len}
use Rattle.wal_store.proofs.ordered.numbers_below.Given as goal

abbrev pub invariant-loop-number : goal.invariant-loop-number
invariant-loop-number l = (l.numbers.items ≡ range_with_len 0 l.number) × (vec_len l.numbers ≡ l.number) × (l.count ≤ vec_capacity l.numbers)
