-- Interpolation over a field: the coefficients by which the values at known points give the value anywhere.
use Rattle.wal_gf.proofs.Common.{◌≡◌, ◌≢◌, ◌∙◌, sym, ℕ, zero, suc, List, [], ◌∷◌, length, refl, arith, ◌⊎◌, inl, inr, cond, subst, AllByRecursion}
use Rattle.wal_gf.proofs.Algebra.{Field, times_left_comm, nothing-plus, unit-times, nothing-times, times-nothing, same_of_sum, equal_or_not, same-other}
use Rattle.wal_gf.proofs.Sums.{sum_over, sum_over-same}
use Rattle.wal_gf.proofs.Polynomials.{Apart, IsPolynomial, IsPolynomial-more, IsPolynomial-same, IsPolynomial-constant, IsPolynomial-times, IsPolynomial-line, IsPolynomial-sum, polynomial_unique}

-- (w + q) / (p + q), or the unit where q is p
unfoldable pub factor : {K : Type 0} → Field K → K → K → K → K
factor F p w q = cond (F.same p q) F.unit (F.times (F.plus w q) (F.inverse (F.plus p q)))

-- the product of (w + q) / (p + q) over the known points q other than p
unfoldable pub coefficient : {K : Type 0} → Field K → List K → K → K → K
coefficient F [] p w = F.unit
coefficient F (q ∷ known) p w = F.times (factor F p w q) (coefficient F known p w)

-- the sum over the known points of the coefficient at w times the value there
unfoldable pub through : {K : Type 0} → Field K → List K → (K → K) → K → K
through F known f w = sum_over F known (λ p. F.times (coefficient F known p w) (f p))

-- p is one of the points
unfoldable pub Among : {K : Type 0} → K → List K → Type 0
Among p [] = ⊥
Among p (q ∷ qs) = (p ≡ q) ⊎ Among p qs

pub All-Among : {K : Type 0} (qs : List K) (P : K → Type 0) → ((p : K) → Among p qs → P p) → AllByRecursion P qs
unfolding Among
All-Among [] P h = tt
All-Among (q ∷ qs) P h = (h q (inl refl), All-Among qs P (λ p m. h p (inr m)))

pub Among-All : {K : Type 0} (qs : List K) (P : K → Type 0) → AllByRecursion P qs → (p : K) → Among p qs → P p
unfolding Among
Among-All [] P h p m = absurd m
Among-All (q ∷ qs) P h p m = elim m [ inl e ↦ subst P (sym e) h.0 | inr n ↦ Among-All qs P h.1 p n ]

module _ {K : Type 0} (F : Field K) where
  open F use {nothing, unit, plus, times, inverse, same, plus_assoc, plus_comm, plus-nothing, plus-self, times_assoc, times_comm, times-unit, times-plus, times-inverse, same-to, same-from}

  factor-same : (p w q : K) → p ≡ q → factor F p w q ≡ unit
  unfolding factor
  factor-same p w q e = rw (same-from p q e)

  factor-other : (p w q : K) → p ≢ q → factor F p w q ≡ times (plus w q) (inverse (plus p q))
  unfolding factor
  factor-other p w q n = rw (same-other F p q n)

  factor-own : (p q : K) → factor F p p q ≡ unit
  factor-own p q =
      elim (equal_or_not F p q) [
        | inl e ↦ factor-same p p q e
        | inr n ↦ factor-other p p q n ∙ times-inverse (plus p q) (λ z. n (same_of_sum F p q z))
      ]

  -- a point's own coefficient is the unit
  pub coefficient-own : (known : List K) (p : K) → coefficient F known p p ≡ unit
  unfolding coefficient
  coefficient-own [] p = refl
  coefficient-own (q ∷ known) p = rw (factor-own p q, coefficient-own known p, coefficient) (times-unit unit)

  -- its coefficient at another known point is nothing
  pub coefficient-other : (known : List K) (p w : K) → p ≢ w → Among w known → coefficient F known p w ≡ nothing
  unfolding coefficient Among
  coefficient-other [] p w n m = absurd m
  coefficient-other (q ∷ known) p w n m =
      elim m [
        | inl e ↦
            rw (factor-other p w q (λ f. n (f ∙ sym e)), e, plus-self q, coefficient)
            (rw (nothing-times F (inverse (plus p q))) (nothing-times F (coefficient F known p q)))
        | inr i ↦ rw (coefficient-other known p w n i, coefficient) (times-nothing F (factor F p w q))
      ]

  -- what a factor does to a polynomial in w
  times_factor : (k : ℕ) (P : K → Type 0) (f : K → K) (p q : K) → p ≢ q → IsPolynomial F k P f →
      IsPolynomial F (suc k) P (λ w. times (factor F p w q) (f w))
  times_factor k P f p q n h =
      let m = IsPolynomial-times F (suc k) P (λ w. times (plus w q) (f w)) (inverse (plus p q))
      (IsPolynomial-line F k P f q h) in
      (m.0, m.1, λ w z. m.2 w z ∙ rw (factor-other p w q n) (simp (times_assoc, times_comm, times_left_comm F)))

  times_factor-same : (k : ℕ) (P : K → Type 0) (f : K → K) (p q : K) → p ≡ q → IsPolynomial F k P f →
      IsPolynomial F k P (λ w. times (factor F p w q) (f w))
  times_factor-same k P f p q e h = (h.0, h.1, λ w z. h.2 w z ∙ sym (rw (factor-same p w q e) (unit-times F (f w))))

  coefficient-polynomial_more : (P : K → Type 0) (known : List K) (p : K) →
      IsPolynomial F (suc (length known)) P (λ w. coefficient F known p w)
  unfolding coefficient
  coefficient-polynomial_more P [] p = IsPolynomial-constant F zero P unit
  coefficient-polynomial_more P (q ∷ known) p =
      elim (equal_or_not F p q) [
        | inl e ↦
            IsPolynomial-more F (suc (length known)) (suc (suc (length known))) P (λ w. times (factor F p w q) (coefficient F known p w)) (omega arith)
            (times_factor-same (suc (length known)) P (λ w. coefficient F known p w) p q e (coefficient-polynomial_more P known p))
        | inr n ↦ times_factor (suc (length known)) P (λ w. coefficient F known p w) p q n (coefficient-polynomial_more P known p)
      ]

  -- as a function of w, the coefficient of a known point is a polynomial with as many coefficients as there are known points
  pub coefficient-polynomial : (P : K → Type 0) (known : List K) (p : K) → Among p known →
      IsPolynomial F (length known) P (λ w. coefficient F known p w)
  unfolding coefficient Among
  coefficient-polynomial P [] p m = absurd m
  coefficient-polynomial P (q ∷ known) p m =
      elim (equal_or_not F p q) [
        | inl e ↦ times_factor-same (suc (length known)) P (λ w. coefficient F known p w) p q e (coefficient-polynomial_more P known p)
        | inr n ↦
            elim m [
              | inl e ↦ absurd (n e)
              | inr i ↦ times_factor (length known) P (λ w. coefficient F known p w) p q n (coefficient-polynomial P known p i)
            ]
      ]

  -- the values that `through` gives are those of a polynomial
  pub through-polynomial : (P : K → Type 0) (known : List K) (f : K → K) → IsPolynomial F (length known) P (through F known f)
  unfolding through
  through-polynomial P known f =
      IsPolynomial-same F (length known) P (λ w. sum_over F known (λ p. times (f p) (coefficient F known p w))) (through F known f)
      (λ w z. sum_over-same F known (λ p. times (f p) (coefficient F known p w)) (λ p. times (coefficient F known p w) (f p))
      (λ p. times_comm (f p) (coefficient F known p w)))
      (IsPolynomial-sum F (length known) P known f (λ p w. coefficient F known p w)
      (All-Among known (λ p. IsPolynomial F (length known) P (λ w. coefficient F known p w)) (λ p m. coefficient-polynomial P known p m)))

  -- a sum whose coefficients are nothing but at p
  sum-none : (known ps : List K) (f : K → K) (w : K) → Among w known → AllByRecursion (λ p. w ≢ p) ps →
      sum_over F ps (λ p. times (coefficient F known p w) (f p)) ≡ nothing
  unfolding sum_over
  sum-none known [] f w m n = refl
  sum-none known (p ∷ ps) f w m n =
      rw (coefficient-other known p w (λ e. n.0 (sym e)) m, sum-none known ps f w m n.1, sum_over)
      (plus-nothing (times nothing (f p)) ∙ nothing-times F (f p))

  sum-one : (known ps : List K) (f : K → K) (w : K) → Among w known → Apart ps → Among w ps →
      sum_over F ps (λ p. times (coefficient F known p w) (f p)) ≡ f w
  unfolding sum_over Apart Among
  sum-one known [] f w m d i = absurd i
  sum-one known (p ∷ ps) f w m d i =
      elim i [
        | inl e ↦
            rw (sum-none known ps f w m (rw e d.0), e, coefficient-own known p, sum_over)
            (plus-nothing (times unit (f p)) ∙ unit-times F (f p))
        | inr j ↦
            rw (coefficient-other known p w (Among-All ps (λ q. p ≢ q) d.0 w j) m, sum_over)
            (rw (sum-one known ps f w m d.1 j, nothing-times F (f p)) (nothing-plus F (f w)))
      ]

  -- at a known point `through` gives the value there
  pub through-known : (known : List K) (f : K → K) → Apart known → (w : K) → Among w known → through F known f w ≡ f w
  unfolding through
  through-known known f d w m = sum-one known known f w m d m

  -- a polynomial's value anywhere is the sum of the coefficients times its values at the known points
  pub interpolation : (P : K → Type 0) (known : List K) (f : K → K) → Apart known → AllByRecursion P known →
      IsPolynomial F (length known) P f → (w : K) → P w → f w ≡ through F known f w
  interpolation P known f d p h w q =
      polynomial_unique F P known f (through F known f) d p h (through-polynomial P known f)
      (All-Among known (λ r. f r ≡ through F known f r) (λ r m. sym (through-known known f d r m))) w q
