use Rattle.wal_matrix.proofs.Common.{◌≡◌, length, AreSources}
use Rattle.wal_matrix.proofs.strips.put_sources.Given as goal

abbrev pub invariant-loop-column : goal.invariant-loop-column
invariant-loop-column l = record {
  long : length l.cells ≡ length l.fn.cells;
  sources : AreSources l.faults l.cut.size l.bytes l.row l.cut.from l.cut.long l.column l.cells;
}
