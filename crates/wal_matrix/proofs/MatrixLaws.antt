-- The matrix that is extended in both directions.
use Rattle.wal_matrix.proofs.Common.{◌≡◌, ℕ, ◌+◌, ◌*◌, ◌/◌, ◌%◌, ◌<◌, ◌≤◌, List, length, take, drop, slice_index, sym, ap, ◌∙◌, arith, ⊎_elim, cases_lt, get_or_past, IsCodeword, IsCodeword-same, codeword_unique_first, every_row_first, table_unique_first, word_at, region, shard_count, row_count, column_count, symbol_size, symbol_size-least, bytes_from_words, div_below, mod_below, div-add-mod', symbol, IsCodedMatrix, IsMatrixOf, IsExtended, IsTurnedExtension}
use Rattle.wal_matrix.proofs.Symbols.{symbol_is}
use Rattle.wal_matrix.proofs.Places.{even_product}
use Rattle.wal_matrix.proofs.Codewords.{AreBytes, bytes_of_part, word_of_bytes}
use Rattle.wal_matrix.proofs.TurnedLaws.{word_of_run}

-- each word of a symbol is a word
pub word_of_symbol : (n s : ℕ) (e : List ℕ) (r c w : ℕ) → AreBytes e → word_at (symbol n s e r c) w < 65536
unfolding symbol
word_of_symbol n s e r c w bytes = word_of_bytes (take s (drop ((r * n + c) * s) e)) w (bytes_of_part s ((r * n + c) * s) e bytes)

-- a block that is extended along its rows, and then along its columns
pub extended_twice : (f s : ℕ) (block by_columns e : List ℕ) → f ≤ 333
    → IsTurnedExtension (row_count f) (column_count f) (shard_count f) s block by_columns
    → IsTurnedExtension (shard_count f) (row_count f) (shard_count f) s by_columns e
    → length e ≡ shard_count f * shard_count f * s → AreBytes e → IsMatrixOf f s block e
extended_twice f s block by_columns e few first second long bytes =
    let n = shard_count f in
    record {
      coded = record {
        size = long;
        fits = λ i _. bytes i;
        rows = λ r w hr hw.
            every_row_first (column_count f) (row_count f) n n (λ a b. word_at (symbol n s e a b) w) (omega arith) (omega arith) (omega arith)
            (λ a ha.
            IsCodeword-same (column_count f) n (λ b. word_at (symbol (row_count f) s by_columns b a) w) (λ b. word_at (symbol n s e a b) w)
            (λ b hb. ap (λ (ys : List ℕ). word_at ys w) (second.source b a hb ha)) (first.codeword a w ha hw))
            (λ b hb. second.codeword b w hb hw) r hr;
        columns = second.codeword;
      };
      source = λ r c hr hc. second.source c r (omega arith) hr ∙ first.source r c hr hc;
    }

-- bytes that are below 256 within a list
pub bytes_within : (e : List ℕ) → ((i : ℕ) → i < length e → slice_index e i < 256) → AreBytes e
bytes_within e fits i =
    ⊎_elim (λ inside. fits i inside) (λ past. let none = get_or_past e i 0 past in omega arith) (cases_lt i (length e))

-- runs of as many bytes whose words are codewords are the same if the first ones are
pub same_runs : (known n size : ℕ) (a b : ℕ → List ℕ) → known ≤ n → n ≤ 65536 → size % 2 ≡ 0
    → ((i : ℕ) → i < n → length (a i) ≡ size) → ((i : ℕ) → i < n → length (b i) ≡ size) → ((i : ℕ) → AreBytes (a i))
    → ((i : ℕ) → AreBytes (b i)) → ((w : ℕ) → 2 * w < size → IsCodeword known n (λ i. word_at (a i) w))
    → ((w : ℕ) → 2 * w < size → IsCodeword known n (λ i. word_at (b i) w))
    → ((i : ℕ) → i < known → a i ≡ b i) → (i : ℕ) → i < n → a i ≡ b i
same_runs known n size a b fewer few even long_a long_b bytes_a bytes_b words_a words_b same i h =
    let long = long_a i h in
    bytes_from_words (a i) (b i) (long ∙ sym (long_b i h)) (ap (λ (k : ℕ). k % 2) long ∙ even) (bytes_a i) (bytes_b i)
    (λ w l.
    let low : 2 * w < size = omega arith in
    codeword_unique_first known n (λ j. word_at (a j) w) (λ j. word_at (b j) w) fewer few (words_a w low)
    (words_b w low) (λ j hj. ap (λ (ys : List ℕ). word_at ys w) (same j hj)) i h)

-- lists of symbols whose words agree
pub same_by_words : (count s : ℕ) (d e : List ℕ) → s % 2 ≡ 0 → 0 < s → length d ≡ count * s → length e ≡ count * s
    → AreBytes d → AreBytes e
    → ((i w : ℕ) → i < count → 2 * w < s → word_at (region s d i) w ≡ word_at (region s e i) w) → d ≡ e
same_by_words count s d e even some long_d long_e bytes_d bytes_e same =
    let h = s / 2 in
    let half : s ≡ 2 * h = omega arith in
    let wide : 0 < h = omega arith in
    bytes_from_words d e (long_d ∙ sym long_e) (ap (λ (k : ℕ). k % 2) long_d ∙ even_product count s even) bytes_d
    bytes_e
    (λ k l.
    let word : 2 * (k % h) < s = omega (arith, mod_below k h wide) in
    let place : k ≡ h * (k / h) + k % h = omega (arith, div-add-mod' k h) in
    ap (λ (m : ℕ). word_at d m) place ∙ sym (word_of_run s (k / h) (k % h) d even word)
    ∙ same (k / h) (k % h) (div_below k h count wide (omega (arith, ap (λ (z : ℕ). count * z) half))) word
    ∙ word_of_run s (k / h) (k % h) e even word ∙ ap (λ (m : ℕ). word_at e m) (sym place))

-- matrices whose words agree
pub same_matrix : (f s : ℕ) (d e : List ℕ) → s % 2 ≡ 0 → 0 < s → IsCodedMatrix f s d → IsCodedMatrix f s e
    → ((r c w : ℕ) → r < shard_count f → c < shard_count f → 2 * w < s
    → word_at (symbol (shard_count f) s d r c) w ≡ word_at (symbol (shard_count f) s e r c) w) → d ≡ e
same_matrix f s d e even some hd he same =
    let n = shard_count f in
    same_by_words (n * n) s d e even some hd.size he.size (bytes_within d hd.fits) (bytes_within e he.fits)
    (λ i w hi hw.
    let wide : 0 < n = omega arith in
    let at : (ys : List ℕ) → word_at (region s ys i) w ≡ word_at (symbol n s ys (i / n) (i % n)) w =
    λ ys. ap (λ (zs : List ℕ). word_at zs w)
    (ap (λ (k : ℕ). region s ys k) (sym (div-add-mod' i n)) ∙ sym (symbol_is n s ys (i / n) (i % n))) in
    at d ∙ same (i / n) (i % n) w (div_below i n n wide hi) (mod_below i n wide) hw ∙ sym (at e))

-- a blob has one extended matrix
pub extended_unique : (f : ℕ) (bytes d e : List ℕ) → f ≤ 333 → IsExtended f bytes d → IsExtended f bytes e → d ≡ e
extended_unique f bytes d e few hd he =
    let n = shard_count f in
    let s = symbol_size f (length bytes) in
    let size = symbol_size-least f (length bytes) in
    same_matrix f s d e size.even (omega arith) hd.coded he.coded
    (λ r c w hr hc hw.
    table_unique_first (row_count f) (column_count f) n n (λ a b. word_at (symbol n s d a b) w) (λ a b. word_at (symbol n s e a b) w)
    (omega arith) (omega arith) (omega arith) (omega arith)
    (λ a ha. hd.coded.rows a w (omega arith) hw) (λ a ha. he.coded.rows a w (omega arith) hw)
    (λ b hb. hd.coded.columns b w hb hw) (λ b hb. he.coded.columns b w hb hw)
    (λ a b ha hb. ap (λ (ys : List ℕ). word_at ys w) (hd.source a b ha hb ∙ sym (he.source a b ha hb)))
    r c hr hc)
