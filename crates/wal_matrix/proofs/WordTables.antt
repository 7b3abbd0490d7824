-- A matrix that is made of given words.
use Rattle.wal_matrix.proofs.Common.{◌≡◌, ℕ, ◌+◌, ◌*◌, ◌/◌, ◌%◌, ◌<◌, List, [], ◌∷◌, zero, suc, length, take, drop, refl, sym, ap, ◌∙◌, arith, flat_map, range_with_len, ext_get_or, div_below, mod_below, div-add-mod', div-mul-add, mod-mul-add, word_at, region, word_at-region, region-byte, symbol}
use Rattle.wal_matrix.proofs.Codewords.{AreBytes}
use Rattle.wal_matrix.proofs.Places.{run_fits}
use Rattle.wal_matrix.proofs.Runs.{length-pieces, piece_at}
use Rattle.wal_matrix.proofs.Symbols.{symbol_is}
use Rattle.wal_matrix.proofs.Words.{bytes_of_pieces}

-- the two bytes of a word
abbrev pub two_bytes : ℕ → List ℕ
two_bytes word = word / 256 ∷ word % 256 ∷ []

-- the bytes of the first words
abbrev pub written_words : (ℕ → ℕ) → ℕ → List ℕ
written_words word count = flat_map (λ k. two_bytes (word k)) (range_with_len 0 count)

written_long : (word : ℕ → ℕ) (count : ℕ) → length (written_words word count) ≡ count * 2
written_long word count = length-pieces (λ k. two_bytes (word k)) 2 count (λ i h. refl)

bytes_of_two : (a b : ℕ) → a < 256 → b < 256 → AreBytes (a ∷ b ∷ [])
bytes_of_two a b ha hb zero = ha
bytes_of_two a b ha hb (suc zero) = hb
bytes_of_two a b ha hb (suc (suc i)) = omega arith

written_bytes : (word : ℕ → ℕ) (count : ℕ) → ((k : ℕ) → k < count → word k < 65536) → AreBytes (written_words word count)
written_bytes word count words =
    bytes_of_pieces (λ k. two_bytes (word k)) count
    (λ k h. let own = words k h in bytes_of_two (word k / 256) (word k % 256) (omega arith) (omega arith))

written_at : (word : ℕ → ℕ) (count k : ℕ) → k < count → word_at (written_words word count) k ≡ word k
written_at word count k h =
    let xs = written_words word count in
    let one : 1 * k + 0 ≡ k = omega arith in
    let start : 2 * 1 * k ≡ k * 2 = omega arith in
    let pair : region (2 * 1) xs k ≡ two_bytes (word k) =
    ap (λ (a : ℕ). take 2 (drop a xs)) start ∙ piece_at (λ i. two_bytes (word i)) 2 count k (λ i l. refl) h in
    ap (λ (a : ℕ). word_at xs a) (sym one) ∙ sym (word_at-region 1 k 0 xs (omega arith)) ∙ ap (λ (ys : List ℕ). word_at ys 0) pair
    ∙ omega arith

-- the word at a number, counted through the symbols and the rows
abbrev pub by_number : (n h : ℕ) → (ℕ → ℕ → ℕ → ℕ) → ℕ → ℕ
by_number n h t k = t (k / h / n) (k / h % n) (k % h)

by_number-at : (n h : ℕ) (t : ℕ → ℕ → ℕ → ℕ) (r c w : ℕ) → c < n → w < h → by_number n h t (h * (r * n + c) + w) ≡ t r c w
by_number-at n h t r c w hc hw =
    let i = r * n + c in
    let swap : h * i + w ≡ i * h + w = omega arith in
    let cell : (h * i + w) / h ≡ i = ap (λ (k : ℕ). k / h) swap ∙ div-mul-add i h w hw in
    let word : (h * i + w) % h ≡ w = ap (λ (k : ℕ). k % h) swap ∙ mod-mul-add i h w hw in
    rw (cell, word, div-mul-add r n c hc, mod-mul-add r n c hc)

-- some matrix of symbols of h words has the given words
pub table_exists : (n h : ℕ) (t : ℕ → ℕ → ℕ → ℕ) → 0 < n → 0 < h
    → ((r c w : ℕ) → r < n → c < n → w < h → t r c w < 65536)
    → (e : List ℕ) × (length e ≡ n * n * (2 * h)) × AreBytes e
    × ((r c w : ℕ) → r < n → c < n → w < h → word_at (symbol n (2 * h) e r c) w ≡ t r c w)
table_exists n h t wide some words =
    let count = n * n * h in
    let word = by_number n h t in
    let e = written_words word count in
    let two : count * 2 ≡ n * n * (2 * h) = omega arith in (
      e,
      written_long word count ∙ two,
      written_bytes word count
          (λ k l.
          let cell : k / h < n * n = div_below k h (n * n) some l in
          words (k / h / n) (k / h % n) (k % h) (div_below (k / h) n n wide cell) (mod_below (k / h) n wide) (mod_below k h some)),
      λ r c w hr hc hw.
          let i = r * n + c in
          let inside : i < n * n = omega (arith, run_fits r n n hr) in
          let below : h * i + w < count = omega (arith, run_fits i (n * n) h inside) in
          ap (λ (ys : List ℕ). word_at ys w) (symbol_is n (2 * h) e r c)
          ∙ word_at-region h i w e hw
          ∙ written_at word count (h * i + w) below
          ∙ by_number-at n h t r c w hc hw,
    )

-- lists of as many regions, which agree, are the same
pub same_by_regions : (count s : ℕ) (d e : List ℕ) → 0 < s → length d ≡ count * s → length e ≡ count * s
    → ((i : ℕ) → i < count → region s d i ≡ region s e i) → d ≡ e
same_by_regions count s d e some long_d long_e same =
    ext_get_or 0 d e (long_d ∙ sym long_e)
    (λ k l.
    let inside : k / s < count = div_below k s count some (omega arith) in
    let within : k % s < s = mod_below k s some in
    let place : s * (k / s) + k % s ≡ k = omega (arith, div-add-mod' k s) in
    let byte = λ (xs : List ℕ). region-byte s xs (k / s) (k % s) within in
    cc (place, byte d, same (k / s) inside, byte e))
