use Rattle.wal_matrix.proofs.Common.{◌≡◌, length, AreRowStrips}
use Rattle.wal_matrix.proofs.strips.fill_rows.Given as goal

abbrev pub invariant-loop-row : goal.invariant-loop-row
invariant-loop-row l = record {
  long : length l.strip ≡ length l.fn.strip;
  rows : AreRowStrips l.faults l.cut.size l.bytes l.row l.cut.from l.cut.long l.strip;
}
