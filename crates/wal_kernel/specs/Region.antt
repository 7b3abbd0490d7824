-- Regions: lists of bytes that are read as words of 16 bits, two bytes each.
use Rattle.std.specs.Prelude.{◌≡◌, ℕ, ◌+◌, ◌*◌, ◌<◌, List, length, take, drop, slice_index, bit_xor}
use Rattle.wal_gf.specs.Field.{times}

-- word i of a region: two bytes, the most significant first
abbrev pub word_at : List ℕ → ℕ → ℕ
word_at bytes i = slice_index bytes (2 * i) * 256 + slice_index bytes (2 * i + 1)

-- the i-th run of `size` bytes
abbrev pub region : ℕ → List ℕ → ℕ → List ℕ
region size bytes i = take size (drop (size * i) bytes)

-- new is old plus the factor times source, word by word
pub record IsScaledSum (factor : ℕ) (old source new : List ℕ) : Type 0 where
  pub same_length : length new ≡ length old
  pub words : (i : ℕ) → 2 * i + 1 < length old
      → word_at new i ≡ bit_xor (word_at old i) (times factor (word_at source i))

-- new is old plus source, byte by byte and so word by word
pub record IsSum (old source new : List ℕ) : Type 0 where
  pub same_length : length new ≡ length old
  pub bytes : (k : ℕ) → k < length old
      → slice_index new k ≡ bit_xor (slice_index old k) (slice_index source k)
  pub words : (i : ℕ) → 2 * i + 1 < length old
      → word_at new i ≡ bit_xor (word_at old i) (word_at source i)
