use Rattle.wal_schedule.proofs.Common.{◌≡◌, map, take, view, number_data}
use Rattle.wal_schedule.proofs.write.list_value.Given as goal

abbrev pub invariant-loop-number : goal.invariant-loop-number
invariant-loop-number l = map view l.list.items ≡ map number_data (take l.number-index l.numbers)
