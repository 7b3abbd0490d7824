use Rattle.wal_schedule.proofs.Common.{◌≡◌, ◌++◌, take, earlier_events}
use Rattle.wal_schedule.proofs.drawn.put_earlier.Given as goal

abbrev pub invariant-loop-blob : goal.invariant-loop-blob
invariant-loop-blob l = l.events.items ≡ l.initial.events.items ++ earlier_events (take l.blob-index l.blobs)
