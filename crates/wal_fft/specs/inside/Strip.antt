-- Strips: some words of each region of a list of regions, side by side.
use Rattle.std.specs.Prelude.{◌≡◌, ℕ, ◌+◌, ◌*◌, ◌<◌, ◌≤◌, List, slice_index}
use Rattle.wal_code.specs.Codeword.{IsCodeword}
use Rattle.wal_kernel.specs.Region.{word_at}
use Rattle.wal_fft.specs.Transform.{lane}

-- the first `known` runs of the strip are the words from `start` on of the regions of `words`
-- words, and the others are zeros
pub record IsGathered (words start width known : ℕ) (regions strip : List ℕ) : Type 0 where
  pub copied : (word : ℕ) → word < width → (i : ℕ) → i < known
      → lane width strip word i ≡ word_at regions (words * i + (start + word))
  pub zeros : (word : ℕ) → word < width → (i : ℕ) → known ≤ i → lane width strip word i ≡ 0

-- from word `start` on, the regions from `known` to below `total` have the strip's words, and
-- neither the words before these nor the first regions changed
pub record IsScattered (words start width known total : ℕ) (strip old new : List ℕ) : Type 0 where
  pub copied : (word : ℕ) → word < width → (i : ℕ) → known ≤ i → i < total
      → word_at new (words * i + (start + word)) ≡ lane width strip word i
  pub first : (k : ℕ) → k < known * (2 * words) → slice_index new k ≡ slice_index old k
  pub before : (i place : ℕ) → place < start
      → word_at new (words * i + place) ≡ word_at old (words * i + place)

-- the words from `start` to below `end` of the regions are codewords, and neither the words before
-- them nor the first regions changed
pub record IsExtendedStrip (words start end known total : ℕ) (old new : List ℕ) : Type 0 where
  pub codewords : (place : ℕ) → start ≤ place → place < end
      → IsCodeword known total (λ i. word_at new (words * i + place))
  pub first : (k : ℕ) → k < known * (2 * words) → slice_index new k ≡ slice_index old k
  pub before : (i place : ℕ) → place < start
      → word_at new (words * i + place) ≡ word_at old (words * i + place)
