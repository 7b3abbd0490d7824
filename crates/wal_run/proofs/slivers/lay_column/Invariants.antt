use Rattle.wal_run.proofs.Common.{◌≡◌, ◌≤◌, ◌+◌, ◌*◌, row_count, column_part, shards, symbol_bytes, appended}
use Rattle.wal_run.proofs.slivers.lay_column.Given as goal

-- the symbols above this row were laid, and there is room for the others
abbrev pub invariant-loop-row : goal.invariant-loop-row
invariant-loop-row l = record {
  laid : l.out ≡ appended l.initial.out (column_part (shards l.encoded) (symbol_bytes l.encoded) l.encoded.cells l.row l.index);
  room : row_count l.encoded.shape.f * symbol_bytes l.encoded ≤ l.out.spare + l.row * symbol_bytes l.encoded;
}
