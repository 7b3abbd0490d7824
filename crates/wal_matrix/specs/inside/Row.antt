-- A row of symbols that begins with a part of a blob.
use Rattle.std.specs.Prelude.{◌≡◌, ℕ, ◌+◌, ◌-◌, ◌*◌, ◌<◌, List, length, take, drop, ◌++◌, replicate}
use Rattle.std.specs.Prelude.{slice_index}
use Rattle.wal_code.specs.Codeword.{IsCodeword}
use Rattle.wal_kernel.specs.Region.{word_at, region}

-- the bytes of the blob from `start` on, at most `width`, and zeros up to the length `run`
unfoldable pub laid_row : ℕ → ℕ → ℕ → List ℕ → List ℕ
laid_row start width run bytes =
    take width (drop start bytes) ++ replicate (run - length (take width (drop start bytes))) 0

-- a row of `total` symbols: the codeword that begins with the bytes of the blob from `start` on,
-- and zeros after them
pub record IsRowFrom (known total size : ℕ) (bytes : List ℕ)
    (start : ℕ) (row : List ℕ) : Type 0 where
  pub begins : (k : ℕ) → k < known * size → slice_index row k ≡ slice_index bytes (start + k)
  pub codeword : (word : ℕ) → 2 * word < size
      → IsCodeword known total (λ column. word_at (region size row column) word)
