-- There is one matrix through given primary slivers, and its source block is a sum of them.
use Rattle.wal_matrix.proofs.Common.{◌≡◌, ℕ, ◌*◌, ◌/◌, ◌%◌, ◌<◌, List, length, get_or, take, drop, sym, ap, ◌∙◌, arith, flat_map, range_with_len, mul_comm, IsCodeword, combination, IsCodeword-same, codeword_unique, combination-codeword, combination-known, table_unique, word_at, region, shard_count, row_count, column_count, symbol, row_of, primary_of, IsMatrixOf, IsMatrixThrough, source_of}
use Rattle.wal_matrix.proofs.Codewords.{AreBytes, bytes_of_part}
use Rattle.wal_matrix.proofs.Interpolated.{AreSlivers, given, across, given-word, index_word, across-column, across-row, across-word, across-given}
use Rattle.wal_matrix.proofs.MatrixLaws.{same_by_words, same_matrix}
use Rattle.wal_matrix.proofs.Places.{run_fits, part_fits}
use Rattle.wal_matrix.proofs.Runs.{piece_at, length-pieces, region_long, run_of_front}
use Rattle.wal_matrix.proofs.Slivers.{primary_is, primary_long, row_of-symbol}
use Rattle.wal_matrix.proofs.Symbols.{joined-symbol}
use Rattle.wal_matrix.proofs.WordTables.{table_exists, same_by_regions}

-- a symbol of a primary sliver
pub primary-symbol : (f s : ℕ) (e : List ℕ) (r c : ℕ) → c < column_count f
    → region s (primary_of f s e r) c ≡ symbol (shard_count f) s e r c
primary-symbol f s e r c hc =
    let n = shard_count f in
    let m = column_count f in
    ap (λ (ys : List ℕ). region s ys c) (primary_is f s e r)
    ∙ run_of_front s (s * c) (m * s) (row_of n s e r) (omega (arith, run_fits c m s hc))
    ∙ row_of-symbol n s e r c (omega arith)

pub bytes_of_primary : (f s : ℕ) (e : List ℕ) (r : ℕ) → AreBytes e → AreBytes (primary_of f s e r)
unfolding primary_of row_of
bytes_of_primary f s e r bytes =
    let row = take (shard_count f * s) (drop (r * shard_count f * s) e) in
    bytes_of_part (column_count f * s) 0 row (bytes_of_part (shard_count f * s) (r * shard_count f * s) e bytes)

-- a primary sliver is a run of bytes that has the same words
pub primary_by_words : (f s : ℕ) (e run : List ℕ) (r : ℕ) → s % 2 ≡ 0 → 0 < s
    → length e ≡ shard_count f * shard_count f * s → AreBytes e
    → r < shard_count f → length run ≡ column_count f * s → AreBytes run
    → ((c w : ℕ) → c < column_count f → 2 * w < s
    → word_at (symbol (shard_count f) s e r c) w ≡ word_at (region s run c) w)
    → primary_of f s e r ≡ run
primary_by_words f s e run r even some long bytes hr long_run bytes_run same =
    same_by_words (column_count f) s (primary_of f s e r) run even some (primary_long f s e r long hr) long_run
    (bytes_of_primary f s e r bytes) bytes_run
    (λ c w hc hw. ap (λ (ys : List ℕ). word_at ys w) (primary-symbol f s e r c hc) ∙ same c w hc hw)

-- a run of joined slivers has its bytes
pub joined_long : (count run k : ℕ) (joined : List ℕ) → length joined ≡ count * run → k < count → length (region run joined k) ≡ run
joined_long count run k joined long hk = region_long run k joined (omega (arith, run_fits k count run hk))

module _ (f s : ℕ) (indices joined : List ℕ) (are : AreSlivers f s indices joined) where
  -- there is a matrix through the slivers
  pub through_some : (e : List ℕ) × IsMatrixThrough f s indices joined e
  through_some =
      let n = shard_count f in
      let m = column_count f in
      let half : 2 * (s / 2) ≡ s = omega arith in
      let found =
      rw half at (table_exists n (s / 2) (λ r c w. across f s indices joined r c w) (omega arith)
      (omega arith) (λ r c w hr hc hw. across-word f s indices joined are r c w hr hc)) in
      let e = found.0 in
      let words = found.3 in (
        e,
        record {
          coded = record {
            size = found.1;
            fits = λ i _. found.2 i;
            rows = λ r w hr hw.
                IsCodeword-same m n (λ c. across f s indices joined r c w) (λ c. word_at (symbol n s e r c) w)
                (λ c hc. words r c w hr hc (omega arith)) (across-row f s indices joined are r w hr);
            columns = λ c w hc hw.
                IsCodeword-same (row_count f) n (λ r. across f s indices joined r c w)
                (λ r. word_at (symbol n s e r c) w)
                (λ r hr. words r c w hr hc (omega arith)) (across-column f s indices joined are c w hc);
          };
          begins = λ k hk.
              let below = are.below k 0 hk in
              primary_by_words f s e (region (m * s) joined k) (get_or indices k 0) are.even are.some found.1 found.2 below
              (joined_long (row_count f) (m * s) k joined are.size (omega arith))
              (bytes_of_part (m * s) (m * s * k) joined are.bytes)
              (λ c w hc hw.
              words (get_or indices k 0) c w below (omega arith) (omega arith)
              ∙ across-given f s indices joined are k c w hk hc
              ∙ ap (λ (ys : List ℕ). word_at ys w) (sym (joined-symbol m s joined k c hc)));
        },
      )

  module _ (e : List ℕ) (is : IsMatrixThrough f s indices joined e) where
    -- what the words at a known row are
    through-given : (k c w : ℕ) → k < length indices → c < column_count f
        → word_at (symbol (shard_count f) s e (get_or indices k 0) c) w ≡ given f s joined k c w
    through-given k c w hk hc =
        let joins = joined-symbol (column_count f) s joined k c hc in
        cc (primary-symbol f s e (get_or indices k 0) c hc, is.begins k hk, joins)

    through-column : (c w : ℕ) → c < shard_count f → 2 * w < s
        → IsCodeword (length indices) (shard_count f) (λ r. word_at (symbol (shard_count f) s e r c) w)
    through-column c w hc hw = rw are.count (is.coded.columns c w hc hw)

    -- and those at any row
    pub through-words : (r c w : ℕ) → r < shard_count f → c < column_count f → 2 * w < s
        → word_at (symbol (shard_count f) s e r c) w ≡ combination indices (λ k. given f s joined k c w) r
    through-words r c w hr hc hw =
        let n = shard_count f in
        codeword_unique n indices (λ a. word_at (symbol n s e a c) w)
        (λ a. combination indices (λ k. given f s joined k c w) a) (omega arith)
        are.distinct (λ i l. are.below i 0 l) (through-column c w (omega arith) hw)
        (combination-codeword n indices (λ k. given f s joined k c w) (omega arith) are.distinct
        (index_word f s indices joined are) (λ k l. given-word f s indices joined are k c w))
        (λ k hk.
        through-given k c w hk hc
        ∙ sym (combination-known indices (λ a. given f s joined a c w) are.distinct (index_word f s indices joined are)
        (λ a l. given-word f s indices joined are a c w) k hk)) r hr

-- matrices through the same slivers are the same
pub through_unique : (f s : ℕ) (indices joined d e : List ℕ) → AreSlivers f s indices joined
    → IsMatrixThrough f s indices joined d → IsMatrixThrough f s indices joined e → d ≡ e
through_unique f s indices joined d e are hd he =
    let n = shard_count f in
    same_matrix f s d e are.even are.some hd.coded he.coded
    (λ r c w hr hc hw.
    table_unique (column_count f) n n indices (λ a b. word_at (symbol n s d a b) w)
    (λ a b. word_at (symbol n s e a b) w)
    are.distinct (λ i l. are.below i 0 l) (omega arith) (omega arith) (omega arith)
    (λ k hk. hd.coded.rows (get_or indices k 0) w (are.below k 0 hk) hw)
    (λ k hk. he.coded.rows (get_or indices k 0) w (are.below k 0 hk) hw)
    (λ b hb. through-column f s indices joined are d hd b w hb hw)
    (λ b hb. through-column f s indices joined are e he b w hb hw)
    (λ k b hk hb. through-given f s indices joined are d hd k b w hk hb
    ∙ sym (through-given f s indices joined are e he k b w hk hb))
    r c hr hc)

-- a row of the source block, which has as many bytes as its rows
pub source-row : (f s : ℕ) (e : List ℕ) (r : ℕ) → length e ≡ shard_count f * shard_count f * s → r < row_count f
    → region (column_count f * s) (source_of f s e) r ≡ primary_of f s e r
unfolding source_of
source-row f s e r long hr =
    let run = column_count f * s in
    ap (λ (k : ℕ). take run (drop k (flat_map (primary_of f s e) (range_with_len 0 (row_count f))))) (mul_comm run r)
    ∙ piece_at (primary_of f s e) run (row_count f) r (λ i h. primary_long f s e i long (omega arith)) hr

pub source_long : (f s : ℕ) (e : List ℕ) → length e ≡ shard_count f * shard_count f * s
    → length (source_of f s e) ≡ row_count f * (column_count f * s)
unfolding source_of
source_long f s e long =
    length-pieces (primary_of f s e) (column_count f * s) (row_count f) (λ i h. primary_long f s e i long (omega arith))

-- a block whose rows are the first primary slivers
pub source_by_rows : (f s : ℕ) (e block : List ℕ) → 0 < s → length e ≡ shard_count f * shard_count f * s
    → length block ≡ row_count f * (column_count f * s)
    → ((r : ℕ) → r < row_count f → region (column_count f * s) block r ≡ primary_of f s e r) → block ≡ source_of f s e
source_by_rows f s e block some long long_block same =
    let m = column_count f in
    same_by_regions (row_count f) (m * s) block (source_of f s e) (omega (arith, part_fits 1 m s (omega arith))) long_block (source_long f s e long)
    (λ r hr. same r hr ∙ sym (source-row f s e r long hr))

-- the source block of the matrix of a block is that block
pub source_of_matrix : (f s : ℕ) (block e : List ℕ) → 0 < s → length block ≡ row_count f * (column_count f * s)
    → IsMatrixOf f s block e → source_of f s e ≡ block
source_of_matrix f s block e some long matrix =
    let m = column_count f in
    sym (source_by_rows f s e block some matrix.coded.size long
    (λ r hr.
    same_by_regions m s (region (m * s) block r) (primary_of f s e r) some (joined_long (row_count f) (m * s) r block long hr)
    (primary_long f s e r matrix.coded.size (omega arith))
    (λ c hc. joined-symbol m s block r c hc ∙ sym (matrix.source r c hr hc) ∙ sym (primary-symbol f s e r c hc))))
