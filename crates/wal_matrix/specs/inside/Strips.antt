-- What serves private functions and proofs beside Strips.
use Rattle.std.specs.Prelude.{◌≡◌, ℕ, ◌+◌, ◌*◌, ◌<◌, List, take, drop, slice_index}
use Rattle.wal_kernel.specs.Region.{region}
use Rattle.wal_shape.specs.Shape.{shard_count, column_count}
use Rattle.wal_matrix.specs.Matrix.{symbol, IsExtended}

-- the first `done` runs of `long` bytes are the strips of as many source symbols of this row
abbrev pub AreSources : ℕ → ℕ → List ℕ → ℕ → ℕ → ℕ → ℕ → List ℕ → Type 0
AreSources f size bytes row from long done cells =
    (column k : ℕ) → column < done → k < long
    → slice_index (region long cells column) k
    ≡ slice_index bytes ((row * column_count f + column) * size + from + k)

-- the runs are the strips of the symbols of this row of the bytes' extended matrix
abbrev pub IsRowStrip : ℕ → ℕ → List ℕ → ℕ → ℕ → ℕ → List ℕ → Type 0
IsRowStrip f size bytes row from long cells =
    (extended : List ℕ) → IsExtended f bytes extended → (column : ℕ) → column < shard_count f
    → region long cells column
    ≡ take long (drop from (symbol (shard_count f) size extended row column))

-- the runs of the first `rows` rows are the strips of their symbols
abbrev pub AreRowStrips : ℕ → ℕ → List ℕ → ℕ → ℕ → ℕ → List ℕ → Type 0
AreRowStrips f size bytes rows from long strip =
    (extended : List ℕ) → IsExtended f bytes extended → (row column : ℕ) → row < rows
    → column < shard_count f
    → symbol (shard_count f) long strip row column
    ≡ take long (drop from (symbol (shard_count f) size extended row column))
