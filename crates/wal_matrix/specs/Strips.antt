-- Strips of a blob's extended matrix: the same bytes of each of its symbols.
use Rattle.std.specs.Prelude.{◌≡◌, ℕ, ◌<◌, List, take, drop}
use Rattle.wal_shape.specs.Shape.{shard_count}
use Rattle.wal_matrix.specs.Matrix.{symbol, IsExtended}

-- the strip holds the `long` bytes from `from` on of each symbol of the bytes' extended matrix, row
-- by row
abbrev pub IsMatrixStrip : ℕ → ℕ → List ℕ → ℕ → ℕ → List ℕ → Type 0
IsMatrixStrip f size bytes from long strip =
    (extended : List ℕ) → IsExtended f bytes extended → (row column : ℕ) → row < shard_count f
    → column < shard_count f
    → symbol (shard_count f) long strip row column
    ≡ take long (drop from (symbol (shard_count f) size extended row column))
