-- The sums of known symbols are the one codeword that has them at their indices.
use Rattle.wal_matrix.proofs.Common.{◌≡◌, ℕ, ◌*◌, ◌%◌, ◌<◌, ◌≤◌, List, length, get_or, slice_index, sym, ap, ◌∙◌, arith, All, Distinct, coefficient, combination, IsCodeword-same, codeword_unique, combination-codeword, combination-known, word_at, region, bytes_from_words, IsWeightedSum, PassesCodeword}
use Rattle.wal_matrix.proofs.Codewords.{AreBytes, bytes_of_part, word_of_bytes}
use Rattle.wal_matrix.proofs.MatrixLaws.{bytes_within, same_by_words}
use Rattle.wal_matrix.proofs.Places.{run_fits}
use Rattle.wal_matrix.proofs.Runs.{region_long}

-- symbols of s bytes at distinct indices below n
pub record AreKnown (n s : ℕ) (known loaded : List ℕ) : Type 0 where
  pub few : n ≤ 1000
  pub even : s % 2 ≡ 0
  pub some : 0 < s
  pub distinct : Distinct known
  pub below : All (λ i. i < n) known
  pub size : length loaded ≡ length known * s
  pub bytes : AreBytes loaded

pub known_symbols : (n s : ℕ) (known loaded : List ℕ) → n ≤ 1000 → s % 2 ≡ 0 → 0 < s → Distinct known → All (λ i. i < n) known
    → length loaded ≡ length known * s → AreBytes loaded → AreKnown n s known loaded
known_symbols n s known loaded few even some distinct below size bytes =
    record { few = few; even = even; some = some; distinct = distinct; below = below; size = size; bytes = bytes }

-- n symbols, each the sum of the known ones times their coefficients for its index
pub record AreSolved (n s : ℕ) (known loaded symbols : List ℕ) : Type 0 where
  pub size : length symbols ≡ n * s
  pub bytes : AreBytes symbols
  pub sums : (i : ℕ) → i < n
      → IsWeightedSum (λ k. coefficient known (slice_index known k) i) s loaded (length known) (region s symbols i)

module _ (n s : ℕ) (known loaded : List ℕ) (are : AreKnown n s known loaded) where
  index_below : (i : ℕ) → i < length known → get_or known i 0 < n
  index_below i l = are.below i 0 l

  index_word : (i : ℕ) → i < length known → get_or known i 0 < 65536
  index_word i l = let few = are.few in let below = index_below i l in omega arith

  loaded_word : (k w : ℕ) → word_at (region s loaded k) w < 65536
  loaded_word k w = word_of_bytes (region s loaded k) w (bytes_of_part s (s * k) loaded are.bytes)

  module _ (symbols : List ℕ) (solved : AreSolved n s known loaded symbols) where
    solved-word : (i w : ℕ) → i < n → 2 * w < s
        → word_at (region s symbols i) w ≡ combination known (λ k. word_at (region s loaded k) w) i
    solved-word i w hi hw = let even = are.even in (solved.sums i hi).words w (omega arith)

    solved-through : (k : ℕ) → k < length known → region s symbols (get_or known k 0) ≡ region s loaded k
    solved-through k hk =
        let i = get_or known k 0 in
        let hi : i < n = index_below k hk in
        let long : length (region s symbols i) ≡ s = region_long s i symbols (omega (arith, run_fits i n s hi, solved.size)) in
        let long_loaded : length (region s loaded k) ≡ s = region_long s k loaded (omega (arith, run_fits k (length known) s hk, are.size)) in
        bytes_from_words (region s symbols i) (region s loaded k) (long ∙ sym long_loaded) (ap (λ (a : ℕ). a % 2) long ∙ are.even)
        (bytes_of_part s (s * i) symbols solved.bytes) (bytes_of_part s (s * k) loaded are.bytes)
        (λ w l.
        solved-word i w hi (omega arith)
        ∙ combination-known known (λ a. word_at (region s loaded a) w) are.distinct index_word (λ a b. loaded_word a w) k hk)

    -- they are a codeword through the known symbols
    pub solved_is_word : PassesCodeword (length known) n s known loaded symbols
    solved_is_word = record {
      coded = record {
        size = solved.size;
        fits = λ i _. solved.bytes i;
        codeword = λ w hw.
            IsCodeword-same (length known) n (combination known (λ k. word_at (region s loaded k) w)) (λ i. word_at (region s symbols i) w)
            (λ i hi. solved-word i w hi hw)
            (combination-codeword n known (λ k. word_at (region s loaded k) w) (omega arith) are.distinct index_word
            (λ k l. loaded_word k w));
      };
      through = solved-through;
    }

  -- codewords through the same symbols are the same
  pub solved_unique : (a b : List ℕ) → PassesCodeword (length known) n s known loaded a → PassesCodeword (length known) n s known loaded b → a ≡ b
  solved_unique a b ha hb =
      same_by_words n s a b are.even are.some ha.coded.size hb.coded.size (bytes_within a ha.coded.fits)
      (bytes_within b hb.coded.fits)
      (λ i w hi hw.
      codeword_unique n known (λ j. word_at (region s a j) w) (λ j. word_at (region s b j) w) (omega arith) are.distinct index_below
      (ha.coded.codeword w hw) (hb.coded.codeword w hw)
      (λ k hk. ap (λ (ys : List ℕ). word_at ys w) (ha.through k hk ∙ sym (hb.through k hk)))
      i hi)
