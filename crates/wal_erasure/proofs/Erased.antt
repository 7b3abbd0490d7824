-- The value at a missing point: the derivative there is the missing word times the locator of the other missing points.
use Rattle.wal_erasure.proofs.Common.{◌≡◌, ◌≢◌, ℕ, suc, ◌-◌, ◌^◌, ◌<◌, ◌≤◌, List, ◌∷◌, length, get_or, map, slice_index, slice_index_or, false, bit_xor, refl, sym, ap, ap₂, ◌∙◌, arith, inl, inr, pow_mono, xor_zero_l, xor_zero_r, xor_lt, times, inverse, xor_back, IsPolynomial, times-lt, times_assoc, times_comm, one-times, times-zero, times-inverse, inverse-lt, Element, words, xor-lt, Distinct, IsCodeword, combination, function, to_polynomial, of_polynomial, codeword_unique, codeword-word, combination-codeword, combination-known, value, IsPoint, product_of, AreWords, quotient, is_known, locator, others, cases_Bool}
use Rattle.std.specs.List.{range_with_len}
use Rattle.std.proofs.lemmas.List.FromFn.{get_or-map-range_with_len, length-map-range_with_len}
use Rattle.std.proofs.lemmas.Grind.{get_or_default_zero}
use Rattle.wal_erasure.proofs.Numbers.{times-number, sum-other}
use Rattle.wal_erasure.proofs.DerivativeLaws.{quotient-lt, quotient-divides, quotient-polynomial}
use Rattle.wal_erasure.proofs.LocatorLaws.{is_known-found, locator-lt, locator-own, locator-pulled, locator-root, locator-polynomial, is_known-first, locator-other, missing_count, count-suc, counted}

-- ---- the points other than one

abbrev other_points : ℕ → ℕ → List ℕ
other_points e m = map (λ i. bit_xor e (suc i)) (range_with_len 0 m)

others-long : (e m : ℕ) → length (other_points e m) ≡ m
others-long e m = length-map-range_with_len (λ i. bit_xor e (suc i)) 0 m

others-at : (e m i : ℕ) → i < m → get_or (other_points e m) i 0 ≡ bit_xor e (suc i)
others-at e m i below = get_or-map-range_with_len (λ i. bit_xor e (suc i)) 0 m i i 0 below (omega arith)

-- a sum with e tells its other part
same_part : (e a b : ℕ) → bit_xor e a ≡ bit_xor e b → a ≡ b
same_part e a b h = sym (xor_back e a) ∙ ap (bit_xor e) h ∙ xor_back e b

others-distinct : (e m : ℕ) → Distinct (other_points e m)
others-distinct e m i j d l below h =
    let long = others-long e m in
    let at : (p : ℕ) → p < length (other_points e m) → slice_index_or (other_points e m) p d ≡ bit_xor e (suc p) =
    λ p o. get_or_default_zero (other_points e m) p d o ∙ others-at e m p (omega arith) in
    let same : suc i ≡ suc j = same_part e (suc i) (suc j) (sym (at i (omega arith)) ∙ h ∙ at j below) in
    absurd (omega arith)

another : (e i : ℕ) → bit_xor e (suc i) ≢ e
another e i h = let none : suc i ≡ 0 = same_part e (suc i) 0 (h ∙ sym (xor_zero_r e)) in absurd (omega arith)

-- ---- the law

abbrev cofactor : List ℕ → ℕ → (ℕ → ℕ) → ℕ → ℕ → ℕ
cofactor known n given e x = times (locator (e ∷ known) n x) (combination known given x)

-- a word times one that is not 0, and times its inverse
undone : (d y : ℕ) → d < 65536 → y < 65536 → d ≢ 0 → times (inverse d) (times d y) ≡ y
undone d y ld ly other =
    let grouped = times_assoc (inverse d) d y ld ly in
    cc (times_comm (inverse d) d (inverse-lt d) ld, times-inverse d ld other, one-times y ly)

-- words whose products by a word that is not 0 are the same
cancelled : (d a b : ℕ) → d < 65536 → a < 65536 → b < 65536 → d ≢ 0 → times d a ≡ times d b → a ≡ b
cancelled d a b ld la lb other h = sym (undone d a ld la other) ∙ ap (times (inverse d)) h ∙ undone d b ld lb other

pub record IsErasure (known : List ℕ) (level : ℕ) (given c : ℕ → ℕ) : Type 0 where
  pub few : level ≤ 10
  pub distinct : Distinct known
  pub below : (k : ℕ) → k < length known → slice_index known k < 2 ^ level
  pub words : (k : ℕ) → k < length known → given k < 65536
  pub coefficients : AreWords c
  pub at_known : (k : ℕ) → k < length known → value level c (slice_index known k) ≡ times (others known (2 ^ level) (slice_index known k)) (given k)
  pub at_missing : (x : ℕ) → x < 2 ^ level → is_known known x ≡ false → value level c x ≡ 0

module _ (known : List ℕ) (level : ℕ) (given c : ℕ → ℕ) (h : IsErasure known level given c) where
  points_few : 2 ^ level ≤ 1024
  points_few = let most : 2 ^ level ≤ 2 ^ 10 = pow_mono h.few in omega arith

  known_words : (k : ℕ) → k < length known → slice_index known k < 65536
  known_words k l = let b = h.below k l in let most = points_few in omega arith

  whole_codeword : IsCodeword (length known) 65536 (combination known given)
  whole_codeword = combination-codeword 65536 known given (omega arith) h.distinct known_words h.words

  sum_word : (x : ℕ) → x < 65536 → combination known given x < 65536
  sum_word x low = codeword-word (length known) 65536 (combination known given) (omega arith) whole_codeword x low

  -- at each point the value is the locator times the sum of coefficients
  whole_value : (x : ℕ) → x < 2 ^ level → value level c x ≡ times (locator known (2 ^ level) x) (combination known given x)
  whole_value x below =
      let n = 2 ^ level in
      let most = points_few in
      elim (cases_Bool (is_known known x)) [
        | inl taken ↦
            let found = is_known-found known x taken in
            let k = found.0 in
            let p = slice_index known found.0 in
            rw (← found.2)
            (h.at_known k found.1
            ∙ ap₂ (λ (s t : ℕ). times s t) (locator-own known n p (ap (is_known known) found.2 ∙ taken)) (sym (combination-known known given h.distinct known_words h.words k found.1)))
        | inr free ↦
            h.at_missing x below free
            ∙ sym (ap (λ (s : ℕ). times s (combination known given x)) (locator-root known n x (omega arith) below free)
            ∙ times_comm 0 (combination known given x) (omega arith) (sum_word x (omega arith)) ∙ times-zero (combination known given x))
      ]

  module _ (e : ℕ) (e_below : e < 2 ^ level) (missing : is_known known e ≡ false) where
    -- away from e the quotient is the cofactor
    away : (x : ℕ) → x < 2 ^ level → x ≢ e → quotient level c e x ≡ cofactor known (2 ^ level) given e x
    away x below other =
        let most = points_few in
        let n = 2 ^ level in
        let d = bit_xor x e in
        let q = quotient level c e x in
        let l = locator (e ∷ known) (2 ^ level) x in
        let s = combination known given x in
        let ls : combination known given x < 65536 = sum_word x (omega arith) in
        let ll : locator (e ∷ known) (2 ^ level) x < 65536 = locator-lt (e ∷ known) (2 ^ level) x in
        let ld : bit_xor x e < 65536 = xor-lt x e (omega arith) (omega arith) in
        cancelled d q (times l s) ld (quotient-lt level c e x h.coefficients) (times-lt l s ls) (sum-other x e other)
        (sym (xor_zero_l (times d q)) ∙ ap (λ (v : ℕ). bit_xor v (times d q)) (sym (h.at_missing e e_below missing))
        ∙ sym (quotient-divides level c e x h.few (omega arith) (omega arith) h.coefficients)
        ∙ whole_value x below
        ∙ ap (λ (v : ℕ). times v s) (locator-pulled known n e x (omega arith) e_below (omega arith) missing)
        ∙ times_assoc d l s ll ls)

    cofactor-lt : (x : ℕ) → x < 65536 → cofactor known (2 ^ level) given e x < 65536
    cofactor-lt x low = times-lt (locator (e ∷ known) (2 ^ level) x) (combination known given x) (sum_word x low)

    cofactor-polynomial : IsPolynomial words (2 ^ level - 1) IsPoint (function (cofactor known (2 ^ level) given e))
    cofactor-polynomial =
        let most = points_few in
        let n = 2 ^ level in
        let a = missing_count (e ∷ known) (2 ^ level) in
        let b = length known in
        let s : Element → Element = function (combination known given) in
        let l = locator-polynomial (e ∷ known) n (omega arith) in
        let all = counted known n h.distinct h.below in
        let less = count-suc known n e e_below missing in
        let sum = to_polynomial (length known) 65536 (combination known given) (omega arith) whole_codeword in
        let p = product_of words a b IsPoint s (sum.0, sum.1, λ x point. sum.2 x x.1) l.0 l.1 in (
          p.0,
          omega (arith, all, less, p.1),
          λ x point.
              p.2 x point ∙ ap (λ (y : Element). words.times y (s x)) (l.2 x point)
              ∙ times-number (locator (e ∷ known) n x.0) (combination known given x.0) (locator-lt (e ∷ known) n x.0)
              (sum_word x.0 x.1),
        )

    -- at e too
    pub erased : quotient level c e e ≡ times (others known (2 ^ level) e) (combination known given e)
    erased =
        let most = points_few in
        let n = 2 ^ level in
        let m = 2 ^ level - 1 in
        let points = other_points e (2 ^ level - 1) in
        let long : length (other_points e (2 ^ level - 1)) ≡ 2 ^ level - 1 = others-long e m in
        let at : (i : ℕ) → i < length (other_points e (2 ^ level - 1)) → get_or (other_points e (2 ^ level - 1)) i 0 ≡ bit_xor e (suc i) = λ i l. others-at e m i (omega arith) in
        let below : (i : ℕ) → i < length (other_points e (2 ^ level - 1)) → get_or (other_points e (2 ^ level - 1)) i 0 < 2 ^ level =
        λ i l. rw (at i l) (xor_lt level e (suc i) e_below (omega arith)) in
        codeword_unique n points (quotient level c e) (cofactor known n given e) (omega arith) (others-distinct e m) below
        (rw long
        (of_polynomial m n (quotient level c e) IsPoint (omega arith) (λ x l. omega arith) (λ i l. quotient-lt level c e i h.coefficients)
        (quotient-polynomial level c e h.few h.coefficients)))
        (rw long
        (of_polynomial m n (cofactor known n given e) IsPoint (omega arith) (λ x l. omega arith) (λ i l. cofactor-lt i (omega arith)) cofactor-polynomial))
        (λ i l. away (get_or points i 0) (below i l) (λ same. another e i (sym (at i l) ∙ same)))
        e e_below

    -- so the missing word is the derivative's value times the factor
    pub recovered : times (inverse (others known (2 ^ level) e)) (quotient level c e e) ≡ combination known given e
    recovered =
        let most = points_few in
        let n = 2 ^ level in
        let y = combination known given e in
        ap (times (inverse (others known n e))) erased
        ∙ undone (others known n e) y (locator-lt (e ∷ known) n e) (sum_word e (omega arith))
        (locator-other (e ∷ known) n e (omega arith) (omega arith) (is_known-first e e known refl))
