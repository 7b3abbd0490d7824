-- A block that is extended along its rows and transposed.
use Rattle.std.specs.Prelude.{◌≡◌, ℕ, ◌*◌, ◌<◌, List}
use Rattle.wal_code.specs.Codeword.{IsCodeword}
use Rattle.wal_kernel.specs.Region.{word_at}
use Rattle.wal_matrix.specs.Matrix.{symbol}

-- the rows of the block, each extended from `known` symbols to `total`, are the columns of the
-- transposed block
pub record IsTurnedExtension (lines known total size : ℕ) (block turned : List ℕ) : Type 0 where
  pub source : (row column : ℕ) → row < lines → column < known
      → symbol lines size turned column row ≡ symbol known size block row column
  pub codeword : (row word : ℕ) → row < lines → 2 * word < size
      → IsCodeword known total (λ column. word_at (symbol lines size turned column row) word)
