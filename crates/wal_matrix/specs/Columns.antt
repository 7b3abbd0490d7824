-- A block whose columns are given one after the other.
use Rattle.std.specs.Prelude.{ℕ, ◌-◌, ◌*◌, List, ◌++◌, replicate}
use Rattle.std.specs.List.{flat_map, range_with_len}
use Rattle.wal_shape.specs.Shape.{row_count, column_count}
use Rattle.wal_matrix.specs.Matrix.{column_part}

-- a row of a block of `width` columns of `rows` symbols: the symbol in that row of each of the
-- `given` columns, and zeros for the columns that were not given
unfoldable pub row_of_columns : ℕ → ℕ → ℕ → List ℕ → ℕ → ℕ → List ℕ
row_of_columns rows width size columns given row =
    column_part rows size columns given row ++ replicate ((width - given) * size) 0

-- the source block for f faults that has the given columns, row by row
unfoldable pub block_of_columns : ℕ → ℕ → List ℕ → ℕ → List ℕ
block_of_columns f size columns given =
    flat_map (row_of_columns (row_count f) (column_count f) size columns given)
    (range_with_len 0 (row_count f))
