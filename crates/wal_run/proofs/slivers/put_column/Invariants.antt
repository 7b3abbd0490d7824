use Rattle.wal_run.proofs.Common.{◌≤◌, Appends, symbol_bytes}
use Rattle.wal_run.proofs.ShardTexts.{column_text}
use Rattle.wal_run.proofs.slivers.put_column.Given as goal

-- the symbols above this row were written
abbrev pub invariant-loop-row : goal.invariant-loop-row
invariant-loop-row g l = record {
  put : Appends (g.K.Sink.written l.initial.sink) (g.K.Sink.written l.sink) (column_text l.encoded.shape.f (symbol_bytes l.encoded) l.encoded.cells l.index l.row);
  later : g.K.Sink.faults l.initial.sink ≤ g.K.Sink.faults l.sink;
}
