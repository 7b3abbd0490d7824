-- Runs of words that are put at points, and taken from them.
use Rattle.std.specs.Prelude.{◌≡◌, ◌≢◌, ℕ, ◌+◌, ◌*◌, ◌<◌, ◌≤◌, List, length, slice_index, false}
use Rattle.wal_gf.specs.Field.{times}
use Rattle.wal_gf.specs.declared.Gf.{Gf}
use Rattle.wal_kernel.specs.Region.{word_at}
use Rattle.wal_code.specs.Codeword.{combination}
use Rattle.wal_code.specs.Weights.{element_at}
use Rattle.wal_fft.specs.Transform.{lane}
use Rattle.wal_erasure.specs.inside.Locator.{is_known}

-- each word is the factor times the source's word
abbrev pub IsProduct : ℕ → List ℕ → List ℕ → Type 0
IsProduct factor source new =
    (word : ℕ) → 2 * word + 1 < length new → word_at new word ≡ times factor (word_at source word)

-- at the first `count` known points the strip has the words from `start` on of the regions of
-- `words` words, each times the point's factor, and at all other points zeros
pub record ArePut (words start width : ℕ) (known : List ℕ) (count : ℕ)
    (factors : List Gf) (regions strip : List ℕ) : Type 0 where
  pub products : (word : ℕ) → word < width → (k : ℕ) → k < count
      → lane width strip word (slice_index known k)
      ≡ times (element_at factors (slice_index known k))
      (word_at regions (words * k + (start + word)))
  pub zeros : (word : ℕ) → word < width → (x : ℕ) → ((k : ℕ) → k < count → slice_index known k ≢ x)
      → lane width strip word x ≡ 0

-- from word `start` on, the first regions have the strip's words, each times the point's factor,
-- and the words before these are kept
pub record AreTaken (words start width count : ℕ)
    (factors : List Gf) (strip old new : List ℕ) : Type 0 where
  pub products : (word : ℕ) → word < width → (i : ℕ) → i < count
      → word_at new (words * i + (start + word))
      ≡ times (element_at factors i) (lane width strip word i)
  pub before : (i place : ℕ) → place < start
      → word_at new (words * i + place) ≡ word_at old (words * i + place)

-- the words from `start` to below `end` of the regions of missing points are the combinations of
-- the sources' words, and the words before them are kept
pub record AreSolved (words start end wanted : ℕ) (known sources old new : List ℕ) : Type 0 where
  pub sums : (place : ℕ) → start ≤ place → place < end → (x : ℕ) → x < wanted
      → is_known known x ≡ false
      → word_at new (words * x + place)
      ≡ combination known (λ k. word_at sources (words * k + place)) x
  pub before : (i place : ℕ) → place < start
      → word_at new (words * i + place) ≡ word_at old (words * i + place)

-- region `to` is the source's region `from`, and the others are kept
pub record IsCopy (words from to : ℕ) (sources old new : List ℕ) : Type 0 where
  pub copied : (word : ℕ) → word < words
      → word_at new (words * to + word) ≡ word_at sources (words * from + word)
  pub kept : (x : ℕ) → x ≢ to → (word : ℕ) → word < words
      → word_at new (words * x + word) ≡ word_at old (words * x + word)

-- the regions of those of the first `count` known points that are below `wanted` are the sources',
-- and those of all points not among these `count` are kept
pub record AreCopied (words wanted : ℕ) (known : List ℕ)
    (count : ℕ) (sources old new : List ℕ) : Type 0 where
  pub copied : (k : ℕ) → k < count → slice_index known k < wanted → (word : ℕ) → word < words
      → word_at new (words * slice_index known k + word) ≡ word_at sources (words * k + word)
  pub kept : (x : ℕ) → ((k : ℕ) → k < count → slice_index known k ≢ x) → (word : ℕ) → word < words
      → word_at new (words * x + word) ≡ word_at old (words * x + word)
