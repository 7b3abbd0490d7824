-- The degrees of skews and of values: as functions of the point they are polynomials, so values at the first points are codewords.
use Rattle.wal_fft.proofs.Common.{◌≡◌, ℕ, zero, suc, ◌+◌, ◌-◌, ◌%◌, ◌^◌, ◌<◌, ◌≤◌, bit_xor, sym, ap, ap₂, ◌∙◌, arith, pow-suc, inl, inr, xor_zero_r, cases_lt, times, IsPolynomial, IsPolynomial-nothing, IsPolynomial-constant, IsPolynomial-plus, IsPolynomial-times, IsPolynomial-line, times-zero, IsCodeword, function, of_polynomial, skew, value}
use Rattle.wal_gf.proofs.Polynomials as polynomial
use Rattle.wal_gf.proofs.Instance.{Element, element-path, words, element_of, element_of-word}
use Rattle.wal_fft.proofs.SkewLaws.{skew-lt, skew-first, skew-step, line, scale, scale-lt}
use Rattle.wal_fft.proofs.ProductDegrees.{product_of}
use Rattle.wal_fft.proofs.Values.{AreWords, value-lt, value-none, value-zero, value-suc}

-- a point of the transform
abbrev pub IsPoint : Element → Type 0
IsPoint x = x.0 < 1024

raised-number : (s t : ℕ) → s < 65536 → t < 65536
    → (words.times (element_of s) (words.times (element_of t) (words.plus (element_of t) words.unit))).0 ≡ times s (line t)
unfolding words
raised-number s t low low' = ap₂ (λ (a b : ℕ). times a (times b (bit_xor b 1))) (element_of-word s low) (element_of-word t low')

first-number : (x : Element) → IsPoint x → words.times (words.plus x words.nothing) words.unit ≡ function (skew 0) x
first-number x point =
    words.times-unit (words.plus x words.nothing) ∙ words.plus-nothing x
    ∙ element-path _ _ (sym (skew-first x.0 point) ∙ sym (element_of-word (skew 0 x.0) (skew-lt 0 x.0)))

-- row j has 2^j + 1 coefficients
pub skew-polynomial : (j : ℕ) → j < 10 → IsPolynomial words (suc (2 ^ j)) IsPoint (function (skew j))
skew-polynomial zero few =
    let p = IsPolynomial-line words 1 IsPoint (λ x. words.unit) words.nothing
    (IsPolynomial-constant words 0 IsPoint words.unit) in
    (p.0, p.1, λ x point. p.2 x point ∙ first-number x point)
skew-polynomial (suc j) few =
    let before = skew-polynomial j (omega arith) in
    let other : Element → Element = λ x. words.plus (function (skew j) x) words.unit in
    let more = IsPolynomial-plus words (suc (2 ^ j)) IsPoint (function (skew j)) (λ x. words.unit) before
    (IsPolynomial-constant words (2 ^ j) IsPoint words.unit) in
    let p = IsPolynomial-times words (2 ^ j + suc (2 ^ j)) IsPoint
    (λ x. words.times (polynomial.value words before.0 x) (other x))
    (element_of (scale j)) (product_of words (2 ^ j) (suc (2 ^ j)) IsPoint other more before.0 before.1) in (
      p.0,
      omega (arith, p.1, pow-suc 2 j),
      λ x point.
          p.2 x point ∙ ap (λ (s : Element). words.times (element_of (scale j)) (words.times s (other x)))
          (before.2 x point)
          ∙ element-path _ _
          (raised-number (scale j) (skew j x.0) (scale-lt j) (skew-lt j x.0) ∙ sym (skew-step j x.0 (omega arith) point)
          ∙ sym (element_of-word (skew (suc j) x.0) (skew-lt (suc j) x.0))),
    )

sum-number : (a s b : ℕ) → a < 65536 → s < 65536 → b < 65536
    → (words.plus (element_of a) (words.times (element_of s) (element_of b))).0 ≡ bit_xor a (times s b)
unfolding words
sum-number a s b low low' low'' =
    ap₂ (λ (p q : ℕ). bit_xor p q) (element_of-word a low) (ap₂ (λ (p q : ℕ). times p q) (element_of-word s low') (element_of-word b low''))

-- the value at a point, by the halves of the coefficients
halves : (j : ℕ) (c : ℕ → ℕ) (x : Element) → AreWords c
    → words.plus (function (value j c) x) (words.times (function (skew j) x) (function (value j (λ i. c (2 ^ j + i))) x)) ≡ function (value (suc j) c) x
halves j c x low =
    let a : value j c x.0 < 65536 = value-lt j c x.0 low in
    let b : value j (λ i. c (2 ^ j + i)) x.0 < 65536 = value-lt j (λ i. c (2 ^ j + i)) x.0 (λ i. low (2 ^ j + i)) in
    element-path _ _
    (sum-number (value j c x.0) (skew j x.0) (value j (λ i. c (2 ^ j + i)) x.0) a (skew-lt j x.0) b
    ∙ sym (value-suc j c x.0) ∙ sym (element_of-word (value (suc j) c x.0) (value-lt (suc j) c x.0 low)))

no_upper : (j : ℕ) (c : ℕ → ℕ) (x : ℕ) → ((i : ℕ) → i < 2 ^ j → c (2 ^ j + i) ≡ 0) → value j c x ≡ value (suc j) c x
no_upper j c x none =
    sym (xor_zero_r (value j c x))
    ∙ ap (bit_xor (value j c x)) (sym (times-zero (skew j x)) ∙ ap (times (skew j x)) (sym (value-none j (λ i. c (2 ^ j + i)) x none)))
    ∙ sym (value-suc j c x)

nothing_value : (c : ℕ → ℕ) (x : Element) → c 0 ≡ 0 → words.nothing ≡ function (value 0 c) x
unfolding words
nothing_value c x none = element-path _ _ (sym (ap (λ (s : ℕ). s % 65536) (value-zero c x.0 ∙ none)))

-- the value has as many coefficients as there are before the zeros
pub value-polynomial : (j k : ℕ) (c : ℕ → ℕ) → j ≤ 10 → AreWords c → ((i : ℕ) → k ≤ i → i < 2 ^ j → c i ≡ 0)
    → IsPolynomial words k IsPoint (function (value j c))
value-polynomial zero zero c few low none =
    let p = IsPolynomial-nothing words 0 IsPoint in
    (p.0, p.1, λ x point. p.2 x point ∙ nothing_value c x (none 0 (omega arith) (omega arith)))
value-polynomial zero (suc k) c few low none =
    let p = IsPolynomial-constant words k IsPoint (element_of (c 0)) in
    (p.0, p.1, λ x point. p.2 x point ∙ ap element_of (sym (value-zero c x.0)))
value-polynomial (suc j) k c few low none =
    elim (cases_lt k (2 ^ j)) [
      | inl below ↦
          let p = value-polynomial j k c (omega arith) low
          (λ i from within. none i from (omega (arith, pow-suc 2 j))) in (
            p.0,
            p.1,
            λ x point.
                p.2 x point
                ∙ ap element_of
                (no_upper j c x.0 (λ i within. none (2 ^ j + i) (omega arith) (omega (arith, pow-suc 2 j)))),
          )
      | inr from ↦
          let h : ℕ → ℕ = λ i. c (2 ^ j + i) in
          let row = skew-polynomial j (omega arith) in
          let lower = value-polynomial j (2 ^ j) c (omega arith) low (λ i over within. absurd (omega arith)) in
          let upper = value-polynomial j (k - 2 ^ j) h (omega arith) (λ i. low (2 ^ j + i))
          (λ i over within. none (2 ^ j + i) (omega arith) (omega (arith, pow-suc 2 j))) in
          let product = product_of words (2 ^ j) (k - 2 ^ j) IsPoint (function (value j h)) upper row.0 row.1 in
          let p = IsPolynomial-plus words k IsPoint (function (value j c))
          (λ x. words.times (polynomial.value words row.0 x) (function (value j h) x))
          (lower.0, omega (arith, lower.1), lower.2) (product.0, omega (arith, product.1), product.2) in (
            p.0,
            p.1,
            λ x point.
                p.2 x point
                ∙ ap (λ (s : Element). words.plus (function (value j c) x) (words.times s (function (value j h) x)))
                (row.2 x point)
                ∙ halves j c x low,
          )
    ]

-- values at the first points are a codeword of as many dimensions as there are coefficients before the zeros
pub values_codeword : (j k n : ℕ) (c : ℕ → ℕ) → j ≤ 10 → n ≤ 1024 → AreWords c → ((i : ℕ) → k ≤ i → i < 2 ^ j → c i ≡ 0)
    → IsCodeword k n (value j c)
values_codeword j k n c few near low none =
    of_polynomial k n (value j c) IsPoint (omega arith) (λ x l. omega arith) (λ x l. value-lt j c x low) (value-polynomial j k c few low none)
