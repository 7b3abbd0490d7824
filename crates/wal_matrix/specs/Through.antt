-- The matrix through given primary slivers.
use Rattle.std.specs.Prelude.{◌≡◌, ℕ, ◌*◌, ◌<◌, List, length, slice_index}
use Rattle.std.specs.List.{flat_map, range_with_len}
use Rattle.wal_kernel.specs.Region.{region}
use Rattle.wal_shape.specs.Shape.{row_count, column_count}
use Rattle.wal_matrix.specs.Matrix.{IsCodedMatrix, primary_of}

-- a matrix of codewords in both directions, whose rows at these indices begin with the joined
-- primary slivers
pub record IsMatrixThrough (f size : ℕ) (indices joined extended : List ℕ) : Type 0 where
  pub coded : IsCodedMatrix f size extended
  pub begins : (k : ℕ) → k < length indices
      → primary_of f size extended (slice_index indices k) ≡ region (column_count f * size) joined k

-- the source block, padding included: the first primary slivers
unfoldable pub source_of : ℕ → ℕ → List ℕ → List ℕ
source_of f size extended = flat_map (primary_of f size extended) (range_with_len 0 (row_count f))
