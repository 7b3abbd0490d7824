-- What serves private functions and proofs beside Front.
use Rattle.std.specs.Prelude.{◌≡◌, ℕ, ◌+◌, ◌*◌, ◌<◌, List}
use Rattle.wal_shape.specs.Shape.{shard_count}
use Rattle.wal_matrix.specs.Matrix.{symbol, IsExtended}

-- the first `done` symbols of the block, counted row by row, are those of these columns
abbrev pub ArePut : ℕ → ℕ → List ℕ → ℕ → ℕ → ℕ → List ℕ → Type 0
ArePut f size bytes first count done block =
    (extended : List ℕ) → IsExtended f bytes extended → (row k : ℕ) → k < count
    → row * count + k < done
    → symbol count size block row k ≡ symbol (shard_count f) size extended row (first + k)
