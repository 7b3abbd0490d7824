use Rattle.wal_schedule.proofs.Common.{◌≡◌, ◌+◌, length, drop, AllByRecursion, items_view, shard_count, IsEventWithin, events_of, after}
use Rattle.wal_schedule.proofs.read.events_in.Given as goal

abbrev pub invariant-loop-item : goal.invariant-loop-item
invariant-loop-item l = record {
  count : length l.events.items ≡ l.item-index;
  within : AllByRecursion (IsEventWithin (shard_count l.f)) l.events.items;
  is : events_of l.f 1 (items_view l.items) ≡ after l.events.items (events_of l.f (l.item-index + 1) (items_view (drop l.item-index l.items)));
}
