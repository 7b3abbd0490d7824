use Rattle.wal_matrix.proofs.Common.{◌≡◌, ◌<◌, ℕ, region, column_part}
use Rattle.wal_matrix.proofs.transposition.transpose.Given as goal

abbrev pub invariant-loop-column : goal.invariant-loop-column
invariant-loop-column l =
    (c : ℕ) → c < l.column → region l.run l.into c ≡ column_part l.columns l.size l.from l.rows c
