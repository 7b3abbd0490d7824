-- What is kept of a blob's extended matrix when its columns are made a few at a time.
use Rattle.std.specs.Prelude.{◌≡◌, ℕ, ◌+◌, ◌*◌, ◌<◌, List, length}
use Rattle.wal_shape.specs.Shape.{BlobShape, shard_count, row_count, column_count, symbol_size}
use Rattle.wal_matrix.specs.Matrix.{symbol, IsExtended}

-- the redundant symbols of the first rows of the bytes' extended matrix, row by row
pub record AreRedundant (f size : ℕ) (bytes kept : List ℕ) : Type 0 where
  pub long : length kept ≡ row_count f * f * size
  pub symbols : (extended : List ℕ) → IsExtended f bytes extended → (row k : ℕ) → row < row_count f
      → k < f
      → symbol f size kept row k ≡ symbol (shard_count f) size extended row (column_count f + k)

-- what is kept: the shape, and the redundant symbols
pub record FrontState : Type 0 where
  pub shape : BlobShape
  pub kept : List ℕ

-- the front is that of these bytes
pub record IsFrontOf (bytes : List ℕ) (front : FrontState) : Type 0 where
  pub long : length bytes ≡ front.shape.length
  pub kept : AreRedundant front.shape.f
      (symbol_size front.shape.f front.shape.length) bytes front.kept

-- the block has `count` columns of the bytes' extended matrix, from column `first` on, row by row
abbrev pub AreColumns : ℕ → ℕ → List ℕ → ℕ → ℕ → List ℕ → Type 0
AreColumns f size bytes first count block =
    (extended : List ℕ) → IsExtended f bytes extended → (row k : ℕ) → row < shard_count f
    → k < count
    → symbol count size block row k ≡ symbol (shard_count f) size extended row (first + k)
