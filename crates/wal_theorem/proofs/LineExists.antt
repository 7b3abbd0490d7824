-- There is a codeword through known symbols, and so through openings that hold.
use Rattle.wal_theorem.proofs.Common.{◌≡◌, ℕ, ◌*◌, ◌/◌, ◌<◌, List, length, All, sym, ap, subst, ◌∙◌, arith, length-map, word_at, region, Axis, IsShape, shard_count, symbol_size, BlobMetadata, symbol_size-least, row_of, AreBytes, bytes_of_part, word_of_bytes, AreEnough, IsLineThrough, crosses_of, symbols_of, Opening}
use Rattle.wal_code.specs.Codeword.{combination}
use Rattle.wal_code.proofs.Codes.{codeword-word, combination-codeword}
use Rattle.wal_matrix.specs.Word.{PassesCodeword}
use Rattle.wal_matrix.proofs.Places.{run_fits}
use Rattle.wal_matrix.proofs.Runs.{region_long}
use Rattle.wal_matrix.proofs.Slivers.{row_is, row_long, row_of-symbol}
use Rattle.wal_matrix.proofs.Solved.{AreKnown, AreSolved, known_symbols, solved_is_word}
use Rattle.wal_matrix.proofs.WordTables.{table_exists}
use Rattle.wal_evidence.proofs.OneLine.{count_known, crosses_within, symbol_sizes, symbols_bytes, symbols_long}

module _ (n h : ℕ) (known loaded : List ℕ) (are : AreKnown n (2 * h) known loaded) where
  -- the words of the codeword through the known symbols
  abbrev word : ℕ → ℕ → ℕ
  word i w = combination known (λ k. word_at (region (2 * h) loaded k) w) i

  small : (i w : ℕ) → i < n → word i w < 65536
  small i w hi =
      let few = are.few in
      codeword-word (length known) n (λ j. word j w) (omega arith)
      (combination-codeword n known (λ k. word_at (region (2 * h) loaded k) w) (omega arith) are.distinct
      (λ k l. let below = are.below k 0 l in omega arith) (λ k l. word_of_bytes (region (2 * h) loaded k) w (bytes_of_part (2 * h) (2 * h * k) loaded are.bytes)))
      i hi

  -- symbols that have these words
  known_exists : 0 < n → (symbols : List ℕ) × PassesCodeword (length known) n (2 * h) known loaded symbols
  known_exists wide =
      let s = 2 * h in
      let some = are.some in
      let found = table_exists n h (λ r c w. word c w) wide (omega arith) (λ r c w hr hc hw. small c w hc) in
      let e = found.0 in
      let row = row_of n s e 0 in
      let long : length row ≡ n * s = row_long n s e 0 found.1 wide in
      let solved : AreSolved n s known loaded row = record {
        size = long;
        bytes = subst AreBytes (sym (row_is n s e 0)) (bytes_of_part (n * s) (n * s * 0) e found.2);
        sums = λ i hi. record {
          long = region_long s i row (omega (arith, run_fits i n s hi, long));
          words = λ w inside. ap (λ (ys : List ℕ). word_at ys w) (row_of-symbol n s e 0 i hi) ∙ found.3 0 i w wide hi (omega arith);
        };
      } in
      (row, solved_is_word n s known loaded are row solved)

-- a codeword through openings of bytes
pub line_exists : (digest : List ℕ → List ℕ) (m : BlobMetadata) (axis : Axis) (index : ℕ) (openings : List Opening) → IsShape m.f m.length → AreEnough digest m axis index openings
    → All (λ o. AreBytes o.symbol) openings → (word : List ℕ) × IsLineThrough m axis openings word
line_exists digest m axis index openings shape are each =
    let n = shard_count m.f in
    let s = symbol_size m.f m.length in
    let known = crosses_of openings in
    let loaded = symbols_of openings in
    let least = symbol_size-least m.f m.length in
    let few = shape.1 in
    let positive = least.positive in
    let even = least.even in
    let size : length loaded ≡ length known * s =
    symbols_long s openings (symbol_sizes digest m axis index openings are) ∙ ap (λ (k : ℕ). k * s) (sym (length-map openings (λ (o : Opening). o.cross))) in
    let is : AreKnown n s known loaded =
    known_symbols n s known loaded (omega arith) even (omega arith) are.distinct (crosses_within digest m axis index openings are) size (symbols_bytes openings each) in
    let half : 2 * (s / 2) ≡ s = omega arith in
    let found = rw half at (known_exists n (s / 2) known loaded (rw half is) (omega arith)) in
    (found.0, rw (count_known digest m axis index openings are) found.1)
