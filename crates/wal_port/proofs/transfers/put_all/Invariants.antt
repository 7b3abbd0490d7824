-- The bytes that were written are the first ones, and the count of faults never fell.
use Rattle.wal_port.proofs.Common.{length, ◌-◌, ◌≤◌, take, Appends}
use Rattle.wal_port.proofs.transfers.put_all.Given as goal

abbrev pub invariant-writes : goal.invariant-writes
invariant-writes g l = record {
  within : l.done ≤ length l.bytes;
  put : Appends (g.K.Sink.written l.initial.sink) (g.K.Sink.written l.sink) (take l.done l.bytes);
  later : g.K.Sink.faults l.initial.sink ≤ g.K.Sink.faults l.sink;
}

abbrev pub decreases-writes : goal.decreases-writes
decreases-writes g l = length l.bytes - l.done
