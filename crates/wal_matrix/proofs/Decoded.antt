-- The sums of the known slivers are the rows of the matrix through them.
use Rattle.wal_matrix.proofs.Common.{◌≡◌, ℕ, ◌+◌, ◌*◌, ◌/◌, ◌<◌, List, length, slice_index, sym, ap, ◌∙◌, arith, times, xor_below, coefficient, combination, xor_below-same, word_at, region, row_count, column_count, symbol_size, symbol_size-least, primary_of, padded, IsExtended, IsWeightedSum, IsMatrixThrough, source_of}
use Rattle.wal_matrix.proofs.Codewords.{AreBytes, bytes_of_part}
use Rattle.wal_matrix.proofs.Interpolated.{given}
use Rattle.wal_matrix.proofs.MatrixLaws.{bytes_within}
use Rattle.wal_matrix.proofs.PaddedLaws.{padded_long}
use Rattle.wal_matrix.proofs.Symbols.{joined-symbol}
use Rattle.wal_matrix.proofs.ThroughLaws.{joined_long, primary_by_words, through-words, source_by_rows, source_of_matrix}
use Rattle.wal_matrix.proofs.TurnedLaws.{word_of_run, word_fits}
pub use Rattle.wal_matrix.proofs.Interpolated.{AreSlivers}
pub use Rattle.wal_matrix.proofs.ThroughLaws.{through_some, through_unique}

-- a block of which each row is the sum of the slivers at the known indices, each times its coefficient for that row
pub record AreSums (f s : ℕ) (indices joined block : List ℕ) : Type 0 where
  pub long : length block ≡ row_count f * (column_count f * s)
  pub bytes : AreBytes block
  pub sums : (r : ℕ) → r < row_count f
      → IsWeightedSum (λ k. coefficient indices (slice_index indices k) r) (column_count f * s) joined (row_count f) (region (column_count f * s) block r)

module _ (f s : ℕ) (indices joined block : List ℕ) (are : AreSlivers f s indices joined)
    (sum : AreSums f s indices joined block) where
  -- a word of a row is the combination of the words of the slivers
  sum-word : (r c w : ℕ) → r < row_count f → c < column_count f → 2 * w < s
      → word_at (region s (region (column_count f * s) block r) c) w ≡ combination indices (λ k. given f s joined k c w) r
  sum-word r c w hr hc hw =
      let m = column_count f in
      let run = m * s in
      let weight : ℕ → ℕ = λ k. coefficient indices (slice_index indices k) r in
      word_of_run s c w (region run block r) are.even hw
      ∙ (sum.sums r hr).words (s / 2 * c + w) (word_fits s c m w are.even hc hw)
      ∙ xor_below-same (row_count f) (λ k. times (weight k) (word_at (region run joined k) (s / 2 * c + w)))
      (λ k. times (weight k) (given f s joined k c w))
      (λ k hk.
      ap (λ (x : ℕ). times (weight k) x)
      (sym (word_of_run s c w (region run joined k) are.even hw)
      ∙ ap (λ (ys : List ℕ). word_at ys w) (joined-symbol m s joined k c hc)))
      ∙ ap (λ (n : ℕ). xor_below n (λ k. times (weight k) (given f s joined k c w))) (sym are.count)

  -- the sums of the slivers are the source block of each matrix through them
  pub sums_source : (e : List ℕ) → IsMatrixThrough f s indices joined e → block ≡ source_of f s e
  sums_source e is =
      let run = column_count f * s in
      source_by_rows f s e block are.some is.coded.size sum.long
      (λ r hr.
      sym (primary_by_words f s e (region run block r) r are.even are.some is.coded.size (bytes_within e is.coded.fits)
      (omega arith) (joined_long (row_count f) run r block sum.long hr) (bytes_of_part run (run * r) block sum.bytes)
      (λ c w hc hw. through-words f s indices joined are e is r c w (omega arith) hc hw
      ∙ sym (sum-word r c w hr hc hw))))

-- the extended matrix of a blob is the matrix through its own primary slivers
pub extended_is_through : (f : ℕ) (bytes indices joined e : List ℕ) → IsExtended f bytes e
    → ((k : ℕ) → k < length indices
    → primary_of f (symbol_size f (length bytes)) e (slice_index indices k) ≡ region (column_count f * symbol_size f (length bytes)) joined k)
    → IsMatrixThrough f (symbol_size f (length bytes)) indices joined e
extended_is_through f bytes indices joined e is begins =
    record { coded = is.coded; begins = begins }

-- and its source block is the blob and zeros after it
pub source_of_extended : (f : ℕ) (bytes e : List ℕ) → IsExtended f bytes e → source_of f (symbol_size f (length bytes)) e ≡ padded f bytes
source_of_extended f bytes e is =
    let least = symbol_size-least f (length bytes) in
    source_of_matrix f (symbol_size f (length bytes)) (padded f bytes) e (omega arith) (padded_long f bytes ∙ omega arith) is
