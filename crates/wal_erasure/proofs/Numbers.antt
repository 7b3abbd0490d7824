-- Sums and products of words, as numbers and as elements of the field.
use Rattle.wal_erasure.proofs.Common.{◌≡◌, ◌≢◌, ℕ, ◌<◌, bit_xor, sym, ap, ap₂, ◌∙◌, lit<, xor_zero_r, times, xor_back, zero_factor, times-lt, Element, element-path, words, element_of, element_of-word, xor-lt}
use Rattle.wal_gf.proofs.Algebra.{Field, plus-times, times_left_comm, plus_left_comm}

pub plus-number : (a b : ℕ) → a < 65536 → b < 65536 → words.plus (element_of a) (element_of b) ≡ element_of (bit_xor a b)
unfolding words
plus-number a b low low' =
    element-path _ _ (ap₂ (λ (s t : ℕ). bit_xor s t) (element_of-word a low) (element_of-word b low') ∙ sym (element_of-word (bit_xor a b) (xor-lt a b low low')))

pub times-number : (a b : ℕ) → a < 65536 → b < 65536 → words.times (element_of a) (element_of b) ≡ element_of (times a b)
unfolding words
times-number a b low low' =
    element-path _ _ (ap₂ (λ (s t : ℕ). times s t) (element_of-word a low) (element_of-word b low') ∙ sym (element_of-word (times a b) (times-lt a b low')))

pub nothing-number : words.nothing ≡ element_of 0
unfolding words
nothing-number = element-path _ _ (sym (element_of-word 0 (lit< tt)))

pub own-number : (x : Element) → x ≡ element_of x.0
own-number x = element-path _ _ (sym (element_of-word x.0 x.1))

-- a product of words that are not 0 is not 0
pub product-other : (a b : ℕ) → a < 65536 → b < 65536 → a ≢ 0 → b ≢ 0 → times a b ≢ 0
product-other a b low low' other other' e = other' (zero_factor a b low low' other e)

-- words whose sum is 0 are equal
pub sum-none : (a b : ℕ) → bit_xor a b ≡ 0 → a ≡ b
sum-none a b e = cc (xor_zero_r a, xor_back a b)

pub sum-other : (a b : ℕ) → a ≢ b → bit_xor a b ≢ 0
sum-other a b other e = other (sum-none a b e)

module _ {K : Type 0} (F : Field K) where
  open F use {plus, times, plus_assoc, plus_comm, times_assoc, times_comm, times-plus}

  regrouped : (a q t s b r d : K) →
      plus (plus a (times d q)) (times (plus (times d s) t) (plus b (times d r))) ≡ plus (plus a (times t b)) (times d (plus (plus q (times t r)) (times s (plus b (times d r)))))
  regrouped a q t s b r d =
      simp (times-plus, plus-times F, times_assoc, times_comm, times_left_comm F, plus_assoc, plus_comm, plus_left_comm F)

-- how the differences of the halves make that of the whole
pub differences : (a q t s b r d : ℕ) → a < 65536 → q < 65536 → t < 65536 → s < 65536 → b < 65536 → r < 65536 → d < 65536 →
    bit_xor (bit_xor a (times d q)) (times (bit_xor (times d s) t) (bit_xor b (times d r)))
    ≡ bit_xor (bit_xor a (times t b)) (times d (bit_xor (bit_xor q (times t r)) (times s (bit_xor b (times d r)))))
unfolding words
differences a q t s b r d la lq lt ls lb lr ld =
    ap (λ (v : Element). v.0) (regrouped words (a, la) (q, lq) (t, lt) (s, ls) (b, lb) (r, lr) (d, ld))
