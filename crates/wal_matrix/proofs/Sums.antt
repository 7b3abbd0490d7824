-- Weighted sums of regions, one source after another.
use Rattle.wal_matrix.proofs.Common.{◌≡◌, ℕ, ◌+◌, ◌*◌, ◌<◌, List, length, get_or, sym, ◌∙◌, ap, arith, bit_xor, times, xor_below, xor_below-more, word_at, region, IsScaledSum, IsWeightedSum}

-- a region of zeros is the sum of no sources
pub sum_none : (weight : ℕ → ℕ) (size : ℕ) (sources target : List ℕ) → length target ≡ size
    → ((i : ℕ) → i < size → get_or target i 0 ≡ 0) → IsWeightedSum weight size sources 0 target
unfolding xor_below
sum_none weight size sources target long zeros = record {
  long = long;
  words = λ w h. let a = zeros (2 * w) (omega arith) in let b = zeros (2 * w + 1) h in omega arith;
}

-- one more source is added
pub sum_more : (weight : ℕ → ℕ) (size k : ℕ) (sources before after : List ℕ) → IsWeightedSum weight size sources k before
    → IsScaledSum (weight k) before (region size sources k) after → IsWeightedSum weight size sources (k + 1) after
sum_more weight size k sources before after h step = record {
  long = step.same_length ∙ h.long;
  words = λ w l.
      let term : ℕ → ℕ = λ i. times (weight i) (word_at (region size sources i) w) in
      step.words w (omega (arith, h.long)) ∙ ap (λ (x : ℕ). bit_xor x (term k)) (h.words w l) ∙ sym (xor_below-more k term);
}
