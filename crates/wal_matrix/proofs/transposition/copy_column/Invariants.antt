use Rattle.wal_matrix.proofs.Common.{◌≡◌, ◌*◌, take, column_part}
use Rattle.wal_matrix.proofs.transposition.copy_column.Given as goal

abbrev pub invariant-loop-row : goal.invariant-loop-row
invariant-loop-row l = take (l.row * l.size) l.into ≡ column_part l.columns l.size l.from l.row l.column
