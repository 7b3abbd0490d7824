-- The laws of the quotient: it divides the difference of two values, its own value is what the derivative has, and its degree.
use Rattle.wal_erasure.proofs.Common.{◌≡◌, ℕ, zero, suc, ◌+◌, ◌-◌, ◌%◌, ◌^◌, ◌<◌, ◌≤◌, T, eqb, bit_xor, refl, sym, ap, ap₂, ◌∙◌, arith, lit<, mod-lt, pow-suc, pow_pos, eqb→eq, xor_assoc, xor_self, xor_zero_l, xor_zero_r, xor_lt, times, additive-zero, all_below, all_below-at, times-lt, times-zero, times-one, times_assoc, times_left_comm, IsPolynomial, IsPolynomial-same, IsPolynomial-nothing, IsPolynomial-constant, IsPolynomial-plus, IsPolynomial-times, Element, words, element_of, function, skew, value, AreWords, value-lt, value-same, value-zero, value-suc, IsPoint, skew-polynomial, value-polynomial, product_of, rate, scale, slope, quotient, element-path, element_of-word}
use Rattle.wal_gf.specs.Field as field
use Rattle.wal_gf.proofs.Polynomials as polynomial
use Rattle.wal_fft.proofs.SkewLaws.{skew-additive, skew-lt, skew-first, skew-step}
use Rattle.wal_erasure.proofs.Numbers.{plus-number, times-number, nothing-number, differences}

-- ---- slopes

-- numbers are words where a computed table says so
small_below : (n : ℕ) (f : ℕ → ℕ) → T (all_below n (λ j. eqb (f j % 65536) (f j))) → (j : ℕ) → j < n → f j < 65536
small_below n f test j few =
    let same : f j % 65536 ≡ f j = eqb→eq _ _ (all_below-at n (λ j. eqb (f j % 65536) (f j)) test j few) in
    omega (arith, mod-lt (f j) {m = 65536} (lit< tt))

scale-lt : (j : ℕ) → j < 9 → scale j < 65536
unfolding all_below
scale-lt = small_below 9 scale tt

pub slope-lt : (j d : ℕ) → slope j d < 65536
unfolding slope
slope-lt zero d = lit< tt
slope-lt (suc j) d =
    times-lt (scale j) (times (slope j d) (bit_xor (skew j d) 1))
    (times-lt (slope j d) (bit_xor (skew j d) 1) (xor_lt 16 (skew j d) 1 (skew-lt j d) (lit< tt)))

pub slope-divides : (j d : ℕ) → j < 10 → d < 1024 → skew j d ≡ times d (slope j d)
unfolding slope
slope-divides zero d few near = skew-first d near ∙ sym (times-one d (omega arith))
slope-divides (suc j) d few near =
    let u = bit_xor (skew j d) 1 in
    let one : bit_xor (skew j d) 1 < 65536 = xor_lt 16 (skew j d) 1 (skew-lt j d) (lit< tt) in
    skew-step j d (omega arith) near
    ∙ ap (λ (t : ℕ). times (scale j) (times t u)) (slope-divides j d (omega arith) near)
    ∙ ap (times (scale j)) (times_assoc d (slope j d) u (slope-lt j d) one)
    ∙ times_left_comm (scale j) d (times (slope j d) u) (scale-lt j (omega arith)) (omega arith) (times-lt (slope j d) u one)

rate_step : (j : ℕ) → j < 9 → rate (suc j) ≡ times (scale j) (rate j)
unfolding all_below times field.product field.remainder field.cancel field.xor_below
rate_step j few = eqb→eq _ _ (all_below-at 9 (λ j. eqb (rate (suc j)) (times (scale j) (rate j))) tt j few)

pub rate-lt : (j : ℕ) → j < 10 → rate j < 65536
unfolding all_below
rate-lt = small_below 10 rate tt

-- the slope at nothing is the rate
pub slope-none : (j : ℕ) → j < 10 → slope j 0 ≡ rate j
unfolding slope
slope-none zero few = refl
slope-none (suc j) few =
    ap (λ (t : ℕ). times (scale j) (times (slope j 0) (bit_xor t 1))) (additive-zero (skew j) (skew-additive j))
    ∙ ap (λ (t : ℕ). times (scale j) (times (slope j 0) t)) (xor_zero_l 1)
    ∙ ap (times (scale j)) (times-one (slope j 0) (slope-lt j 0) ∙ slope-none j (omega arith))
    ∙ sym (rate_step j (omega arith))

-- ---- quotients

pub quotient-lt : (j : ℕ) (c : ℕ → ℕ) (e x : ℕ) → AreWords c → quotient j c e x < 65536
unfolding quotient
quotient-lt zero c e x low = lit< tt
quotient-lt (suc j) c e x low =
    let higher : AreWords (λ i. c (2 ^ j + i)) = λ i. low (2 ^ j + i) in
    xor_lt 16 _ _
    (xor_lt 16 _ _ (quotient-lt j c e x low) (times-lt (skew j e) _ (quotient-lt j (λ i. c (2 ^ j + i)) e x higher)))
    (times-lt (slope j (bit_xor x e)) _ (value-lt j (λ i. c (2 ^ j + i)) x higher))

pub quotient-suc : (j : ℕ) (c : ℕ → ℕ) (e x : ℕ) → quotient (suc j) c e x
    ≡ bit_xor (bit_xor (quotient j c e x) (times (skew j e) (quotient j (λ i. c (2 ^ j + i)) e x))) (times (slope j (bit_xor x e)) (value j (λ i. c (2 ^ j + i)) x))
unfolding quotient
quotient-suc j c e x = refl

pub quotient-zero : (c : ℕ → ℕ) (e x : ℕ) → quotient 0 c e x ≡ 0
unfolding quotient
quotient-zero c e x = refl

-- a skew at x, from its value at e
skew_from : (j x e : ℕ) → skew j x ≡ bit_xor (skew j (bit_xor x e)) (skew j e)
skew_from j x e =
    ap (skew j) (sym (xor_assoc x e e ∙ ap (bit_xor x) (xor_self e) ∙ xor_zero_r x)) ∙ skew-additive j (bit_xor x e) e

pub quotient-divides : (j : ℕ) (c : ℕ → ℕ) (e x : ℕ) → j ≤ 10 → e < 1024 → x < 1024 → AreWords c
    → value j c x ≡ bit_xor (value j c e) (times (bit_xor x e) (quotient j c e x))
quotient-divides zero c e x few near near' low =
    value-zero c x ∙ sym (value-zero c e) ∙ sym (xor_zero_r (value 0 c e))
    ∙ ap (bit_xor (value 0 c e)) (sym (ap (times (bit_xor x e)) (quotient-zero c e x) ∙ times-zero (bit_xor x e)))
quotient-divides (suc j) c e x few near near' low =
    let h : ℕ → ℕ = λ i. c (2 ^ j + i) in
    let lowh : AreWords h = λ i. low (2 ^ j + i) in
    let d = bit_xor x e in
    let a = value j c e in
    let q = quotient j c e x in
    let t = skew j e in
    let s = slope j (bit_xor x e) in
    let b = value j h e in
    let r = quotient j h e x in
    let near_d : bit_xor x e < 1024 = xor_lt 10 x e near' near in
    let upper : value j h x ≡ bit_xor b (times d r) = quotient-divides j h e x (omega arith) near near' lowh in
    value-suc j c x
    ∙ ap₂ (λ (u v : ℕ). bit_xor u v) (quotient-divides j c e x (omega arith) near near' low)
    (ap₂ (λ (u v : ℕ). times u v) (skew_from j x e ∙ ap (λ (u : ℕ). bit_xor u t) (slope-divides j (bit_xor x e) (omega arith) near_d)) upper)
    ∙ differences a q t s b r d (value-lt j c e low) (quotient-lt j c e x low) (skew-lt j e) (slope-lt j (bit_xor x e)) (value-lt j h e lowh)
    (quotient-lt j h e x lowh) (omega arith)
    ∙ ap (λ (v : ℕ). bit_xor (bit_xor a (times t b)) (times d (bit_xor (bit_xor q (times t r)) (times s v)))) (sym upper)
    ∙ ap₂ (λ (u v : ℕ). bit_xor u (times d v)) (sym (value-suc j c e)) (sym (quotient-suc j c e x))

-- quotients come from the coefficients alone
pub quotient-same : (j : ℕ) (c d : ℕ → ℕ) (e x : ℕ) → ((i : ℕ) → i < 2 ^ j → c i ≡ d i) → quotient j c e x ≡ quotient j d e x
unfolding quotient
quotient-same zero c d e x same = refl
quotient-same (suc j) c d e x same =
    let upper : (i : ℕ) → i < 2 ^ j → c (2 ^ j + i) ≡ d (2 ^ j + i) = λ i below. same (2 ^ j + i) (omega (arith, pow-suc 2 j)) in
    rw (quotient-same j c d e x (λ i below. same i (omega (arith, pow-suc 2 j))))
    (rw (quotient-same j (λ i. c (2 ^ j + i)) (λ i. d (2 ^ j + i)) e x upper)
    (rw (value-same j (λ i. c (2 ^ j + i)) (λ i. d (2 ^ j + i)) x upper)))

-- the quotient's own value at e
pub quotient_own : (j : ℕ) (c : ℕ → ℕ) (x : ℕ) → j < 10 → quotient (suc j) c x x
    ≡ bit_xor (bit_xor (quotient j c x x) (times (skew j x) (quotient j (λ i. c (2 ^ j + i)) x x))) (times (rate j) (value j (λ i. c (2 ^ j + i)) x))
quotient_own j c x few =
    let u = bit_xor (quotient j c x x) (times (skew j x) (quotient j (λ i. c (2 ^ j + i)) x x)) in
    quotient-suc j c x x
    ∙ ap (λ (s : ℕ). bit_xor u (times s (value j (λ i. c (2 ^ j + i)) x))) (ap (slope j) (xor_self x) ∙ slope-none j few)

-- ---- degrees

-- what makes one more level of the slope
abbrev step_of : ℕ → ℕ → Element → Element
step_of j e x = element_of (bit_xor (skew j (bit_xor x.0 e)) 1)

abbrev slope_at : ℕ → ℕ → Element → Element
slope_at j e x = element_of (slope j (bit_xor x.0 e))

step-polynomial : (j e : ℕ) → j < 10 → IsPolynomial words (suc (2 ^ j)) IsPoint (step_of j e)
step-polynomial j e few =
    let one : bit_xor (skew j e) 1 < 65536 = xor_lt 16 (skew j e) 1 (skew-lt j e) (lit< tt) in
    IsPolynomial-same words (suc (2 ^ j)) IsPoint (λ x. words.plus (function (skew j) x) (element_of (bit_xor (skew j e) 1))) (step_of j e)
    (λ x point.
    plus-number (skew j x.0) (bit_xor (skew j e) 1) (skew-lt j x.0) one
    ∙ ap element_of (sym (xor_assoc (skew j x.0) (skew j e) 1) ∙ ap (λ (s : ℕ). bit_xor s 1) (sym (skew-additive j x.0 e))))
    (IsPolynomial-plus words (suc (2 ^ j)) IsPoint (function (skew j)) (λ x. element_of (bit_xor (skew j e) 1))
    (skew-polynomial j few) (IsPolynomial-constant words (2 ^ j) IsPoint (element_of (bit_xor (skew j e) 1))))

slope-product : (j e : ℕ) (x : Element) → j < 9 → words.times (element_of (scale j)) (words.times (slope_at j e x) (step_of j e x)) ≡ slope_at (suc j) e x
unfolding slope
slope-product j e x few =
    let d = bit_xor x.0 e in
    let one : bit_xor (skew j (bit_xor x.0 e)) 1 < 65536 = xor_lt 16 (skew j (bit_xor x.0 e)) 1 (skew-lt j (bit_xor x.0 e)) (lit< tt) in
    ap (words.times (element_of (scale j))) (times-number (slope j d) (bit_xor (skew j d) 1) (slope-lt j d) one)
    ∙ times-number (scale j) (times (slope j d) (bit_xor (skew j d) 1)) (scale-lt j few) (times-lt (slope j d) (bit_xor (skew j d) 1) one)

-- row j has 2^j coefficients
slope-polynomial : (j e : ℕ) → j < 10 → IsPolynomial words (2 ^ j) IsPoint (slope_at j e)
unfolding slope
slope-polynomial zero e few = IsPolynomial-constant words 0 IsPoint (element_of 1)
slope-polynomial (suc j) e few =
    let before = slope-polynomial j e (omega arith) in
    let some = pow_pos j in
    let p = IsPolynomial-times words (2 ^ j - 1 + suc (2 ^ j)) IsPoint
    (λ x. words.times (polynomial.value words before.0 x) (step_of j e x))
    (element_of (scale j))
    (product_of words (2 ^ j - 1) (suc (2 ^ j)) IsPoint (step_of j e) (step-polynomial j e (omega arith)) before.0
    (omega (arith, before.1))) in (
      p.0,
      omega (arith, p.1, pow-suc 2 j),
      λ x point.
          p.2 x point ∙ ap (λ (s : Element). words.times (element_of (scale j)) (words.times s (step_of j e x)))
          (before.2 x point)
          ∙ slope-product j e x (omega arith),
    )

quotient-parts : (j : ℕ) (c : ℕ → ℕ) (e : ℕ) (x : Element) → AreWords c
    → words.plus (words.plus (function (quotient j c e) x) (words.times (element_of (skew j e)) (function (quotient j (λ i. c (2 ^ j + i)) e) x)))
    (words.times (slope_at j e x) (function (value j (λ i. c (2 ^ j + i))) x)) ≡ function (quotient (suc j) c e) x
unfolding words
quotient-parts j c e x low =
    let h : ℕ → ℕ = λ i. c (2 ^ j + i) in
    let lowh : AreWords h = λ i. low (2 ^ j + i) in
    element-path _ _
    (ap₂ (λ (a b : ℕ). bit_xor a b)
    (ap₂ (λ (a b : ℕ). bit_xor a b) (element_of-word (quotient j c e x.0) (quotient-lt j c e x.0 low))
    (ap₂ (λ (a b : ℕ). times a b) (element_of-word (skew j e) (skew-lt j e)) (element_of-word (quotient j h e x.0) (quotient-lt j h e x.0 lowh))))
    (ap₂ (λ (a b : ℕ). times a b) (element_of-word (slope j (bit_xor x.0 e)) (slope-lt j (bit_xor x.0 e)))
    (element_of-word (value j h x.0) (value-lt j h x.0 lowh)))
    ∙ sym (quotient-suc j c e x.0) ∙ sym (element_of-word (quotient (suc j) c e x.0) (quotient-lt (suc j) c e x.0 low)))

-- the quotient has one coefficient less than the polynomial
pub quotient-polynomial : (j : ℕ) (c : ℕ → ℕ) (e : ℕ) → j ≤ 10 → AreWords c → IsPolynomial words (2 ^ j - 1) IsPoint (function (quotient j c e))
quotient-polynomial zero c e few low =
    let p = IsPolynomial-nothing words (2 ^ 0 - 1) IsPoint in
    (p.0, p.1, λ x point. p.2 x point ∙ nothing-number ∙ ap element_of (sym (quotient-zero c e x.0)))
quotient-polynomial (suc j) c e few low =
    let h : ℕ → ℕ = λ i. c (2 ^ j + i) in
    let lowh : AreWords h = λ i. low (2 ^ j + i) in
    let n = 2 ^ suc j - 1 in
    let f : Element → Element = function (quotient j c e) in
    let g : Element → Element = λ x. words.times (element_of (skew j e)) (function (quotient j h e) x) in
    let some = pow_pos j in
    let slopes = slope-polynomial j e (omega arith) in
    let l : Element → Element = λ x. words.times (polynomial.value words slopes.0 x) (function (value j h) x) in
    let first = quotient-polynomial j c e (omega arith) low in
    let second = IsPolynomial-times words (2 ^ j - 1) IsPoint (function (quotient j h e)) (element_of (skew j e))
    (quotient-polynomial j h e (omega arith) lowh) in
    let third = product_of words (2 ^ j - 1) (2 ^ j) IsPoint (function (value j h))
    (value-polynomial j (2 ^ j) h (omega arith) lowh (λ i over within. absurd (omega arith))) slopes.0
    (omega (arith, slopes.1)) in
    let p = IsPolynomial-plus words n IsPoint (λ x. words.plus (f x) (g x)) l
    (IsPolynomial-plus words n IsPoint f g (first.0, omega (arith, first.1, pow-suc 2 j), first.2)
    (second.0, omega (arith, second.1, pow-suc 2 j), second.2))
    (third.0, omega (arith, third.1, pow-suc 2 j), third.2) in (
      p.0,
      p.1,
      λ x point.
          p.2 x point
          ∙ ap (λ (s : Element). words.plus (words.plus (f x) (g x)) (words.times s (function (value j h) x)))
          (slopes.2 x point)
          ∙ quotient-parts j c e x low,
    )
