use Rattle.wal_schedule.proofs.Common.{◌≡◌, ◌++◌, take, flat_map, asked_events}
use Rattle.wal_schedule.proofs.drawn.put_asked.Given as goal

abbrev pub invariant-loop-blob : goal.invariant-loop-blob
invariant-loop-blob l = l.events.items ≡ l.initial.events.items ++ flat_map asked_events (take l.blob-index l.blobs)
