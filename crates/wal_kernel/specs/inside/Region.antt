-- What serves private functions and proofs beside Region.
use Rattle.std.specs.Prelude.{◌≡◌, ℕ, ◌/◌, ◌%◌, ◌<◌, ◌≤◌, ◌==◌, if◌then◌else◌, List, length}
use Rattle.std.specs.Prelude.{slice_index, bit_xor}
use Rattle.wal_gf.specs.Field.{times}
use Rattle.wal_kernel.specs.Region.{word_at}

-- byte k of the factor times source, word by word
abbrev pub scaled_byte : ℕ → List ℕ → ℕ → ℕ
scaled_byte factor source k =
    let product = times factor (word_at source (k / 2)) in
    if k % 2 == 0 then product / 256 else product % 256

-- old is bytes, and f was added to those below `end` and to no others
pub record IsSumBelow (f : ℕ → ℕ) (old : List ℕ) (end : ℕ) (now : List ℕ) : Type 0 where
  pub bytes : (k : ℕ) → slice_index old k < 256
  pub long : length now ≡ length old
  pub below : (k : ℕ) → k < end → slice_index now k ≡ bit_xor (slice_index old k) (f k)
  pub above : (k : ℕ) → end ≤ k → slice_index now k ≡ slice_index old k
