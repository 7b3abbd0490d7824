-- The codeword of a sliver.
use Rattle.std.specs.Prelude.{◌≡◌, ℕ, ◌*◌, ◌<◌, List, length, take, slice_index}
use Rattle.wal_code.specs.Codeword.{IsCodeword}
use Rattle.wal_kernel.specs.Region.{word_at, region}
use Rattle.wal_shape.specs.declared.axis.Axis.{Axis}
use Rattle.wal_shape.specs.Shape.{shard_count, sliver_symbols}

-- n symbols of this size are a codeword of dimension k: at each place of a word within the symbols
-- their words are a codeword
pub record AreCoded (k n symbol_size : ℕ) (symbols : List ℕ) : Type 0 where
  pub size : length symbols ≡ n * symbol_size
  pub fits : (i : ℕ) → i < length symbols → slice_index symbols i < 256
  pub codeword : (word : ℕ) → 2 * word < symbol_size
      → IsCodeword k n (λ i. word_at (region symbol_size symbols i) word)

-- the symbols are a codeword that begins with these bytes
pub record BeginsCodeword (k n symbol_size : ℕ) (first symbols : List ℕ) : Type 0 where
  pub coded : AreCoded k n symbol_size symbols
  pub begins : take (k * symbol_size) symbols ≡ first

-- the symbols are a codeword that has the loaded symbols at the known indices
pub record PassesCodeword (k n symbol_size : ℕ) (known loaded symbols : List ℕ) : Type 0 where
  pub coded : AreCoded k n symbol_size symbols
  pub through : (i : ℕ) → i < length known
      → region symbol_size symbols (slice_index known i) ≡ region symbol_size loaded i

-- the codeword that begins with a sliver: it has n symbols, and its dimension is the number of the
-- sliver's symbols
abbrev pub IsWordOf : Axis → ℕ → ℕ → List ℕ → List ℕ → Type 0
IsWordOf axis f symbol_size sliver symbols =
    BeginsCodeword (sliver_symbols axis f) (shard_count f) symbol_size sliver symbols

-- the codeword of this axis that has the loaded symbols at the known indices
abbrev pub IsWordThrough : Axis → ℕ → ℕ → List ℕ → List ℕ → List ℕ → Type 0
IsWordThrough axis f symbol_size known loaded symbols =
    PassesCodeword (sliver_symbols axis f) (shard_count f) symbol_size known loaded symbols
