use Rattle.wal_schedule.proofs.Common.{◌≡◌, drop, items_view, all_objects}
use Rattle.wal_schedule.proofs.read.all_objects.Given as goal

abbrev pub invariant-loop-item : goal.invariant-loop-item
invariant-loop-item l = all_objects (items_view l.items) ≡ all_objects (items_view (drop l.item-index l.items))
