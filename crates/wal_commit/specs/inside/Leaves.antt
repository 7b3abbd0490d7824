-- The leaf digests of the symbols of a matrix, laid out as its symbols are.
use Rattle.std.specs.Prelude.{◌≡◌, ℕ, ◌*◌, ◌<◌, List, length}
use Rattle.wal_matrix.specs.Matrix.{symbol}
use Rattle.wal_tree.specs.Tree.{leaf}

-- a whole matrix of n rows and n columns of symbols of this size, whose leaf digests are a matrix
-- of n rows and n columns of symbols of 32 bytes
pub record AreLeafDigests (digest : List ℕ → List ℕ)
    (n size : ℕ) (extended digests : List ℕ) : Type 0 where
  pub whole : length extended ≡ n * n * size
  pub long : length digests ≡ n * n * 32
  pub each : (row column : ℕ) → row < n → column < n
      → symbol n 32 digests row column ≡ leaf digest (symbol n size extended row column)
