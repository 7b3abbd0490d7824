use Rattle.wal_schedule.proofs.Common.{◌≡◌, map, take, AllByRecursion, view, HasBytes, event_data}
use Rattle.wal_schedule.proofs.write.events_value.Given as goal

abbrev pub invariant-loop-event : goal.invariant-loop-event
invariant-loop-event l = record {
  is : map view l.list.items ≡ map event_data (take l.event-index l.events);
  bytes : AllByRecursion HasBytes (take l.event-index l.events);
}
