use Rattle.wal_schedule.proofs.Common.{◌≡◌, drop, items_view, numbers_of, before}
use Rattle.wal_schedule.proofs.field.numbers_in.Given as goal

abbrev pub invariant-loop-item : goal.invariant-loop-item
invariant-loop-item l = numbers_of (items_view l.items) ≡ before l.numbers.items (numbers_of (items_view (drop l.item-index l.items)))
