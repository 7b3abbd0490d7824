use Rattle.wal_schedule.proofs.Common.{◌≡◌, ◌++◌, take, recovered_by}
use Rattle.wal_schedule.proofs.drawn.put_recovered_by.Given as goal

abbrev pub invariant-loop-blob : goal.invariant-loop-blob
invariant-loop-blob l = l.events.items ≡ l.initial.events.items ++ recovered_by l.axis (take l.blob-index l.blobs) l.shard
