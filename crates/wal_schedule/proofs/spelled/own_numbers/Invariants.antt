use Rattle.wal_schedule.proofs.Common.{◌≡◌, range_with_len}
use Rattle.wal_schedule.proofs.spelled.own_numbers.Given as goal

abbrev pub invariant-loop-number : goal.invariant-loop-number
invariant-loop-number l = l.numbers.items ≡ range_with_len 0 l.number
