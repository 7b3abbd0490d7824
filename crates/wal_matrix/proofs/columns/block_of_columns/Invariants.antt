use Rattle.wal_matrix.proofs.Common.{◌≡◌, flat_map, range_with_len, row_of_columns}
use Rattle.wal_matrix.proofs.columns.block_of_columns.Given as goal

-- the rows so far
abbrev pub invariant-loop-row : goal.invariant-loop-row
invariant-loop-row l =
    l.block.items ≡ flat_map (row_of_columns l.rows l.width l.size l.columns l.given) (range_with_len 0 l.row)
