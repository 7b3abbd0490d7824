use Rattle.wal_matrix.proofs.Common.{◌≡◌, length, ArePut}
use Rattle.wal_matrix.proofs.front.put_columns.Given as goal

abbrev pub invariant-loop-place : goal.invariant-loop-place
invariant-loop-place l = record {
  long : length l.block ≡ length l.fn.block;
  put : ArePut l.faults l.size l.bytes l.first l.count l.place l.block;
}
