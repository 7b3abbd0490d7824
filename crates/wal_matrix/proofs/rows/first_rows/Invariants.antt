use Rattle.wal_matrix.proofs.Common.{◌≡◌, ◌*◌, ◌<◌, ℕ, vec_len, region, IsRowFrom}
use Rattle.wal_matrix.proofs.rows.first_rows.Given as goal

-- the rows so far are extended, and the scratch keeps its length
abbrev pub invariant-loop-row : goal.invariant-loop-row
invariant-loop-row l = record {
  long : vec_len l.cells ≡ l.row * l.run;
  rows : (r : ℕ) → r < l.row → IsRowFrom l.columns l.shards l.size l.bytes (r * l.width) (region l.run l.cells.items r);
}
