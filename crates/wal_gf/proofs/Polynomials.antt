-- Polynomials over a field, as lists of coefficients with the constant first.
use Rattle.wal_gf.proofs.Common.{◌≡◌, ◌≢◌, ◌∙◌, sym, ap, ap₂, ℕ, zero, suc, ◌≤◌, List, [], ◌∷◌, length, refl, arith, AllByRecursion}
use Rattle.wal_gf.proofs.Algebra.{Field, nothing-plus, plus-times, times_left_comm, plus_back, same_of_sum, times-nothing, no_divisors}
use Rattle.wal_gf.proofs.Sums.{sum_over}

-- the value at x of the polynomial with these coefficients
unfoldable pub value : {K : Type 0} → Field K → List K → K → K
value F [] x = F.nothing
value F (c ∷ cs) x = F.plus c (F.times x (value F cs x))

-- synthetic division: the quotient of the polynomial c ∷ cs by x + r, for any c
unfoldable pub divide : {K : Type 0} → Field K → K → List K → List K
divide F r [] = []
divide F r (c ∷ cs) = value F (c ∷ cs) r ∷ divide F r cs

-- no two of the points are equal
unfoldable pub Apart : {K : Type 0} → List K → Type 0
Apart [] = Unit {0}
Apart (r ∷ rs) = AllByRecursion (λ s. r ≢ s) rs × Apart rs

-- f has on P the values of a polynomial with at most k coefficients
abbrev pub IsPolynomial : {K : Type 0} → Field K → ℕ → (K → Type 0) → (K → K) → Type 0
IsPolynomial {K} F k P f = (cs : List K) × (length cs ≤ k) × ((x : K) → P x → value F cs x ≡ f x)

pub length-divide : {K : Type 0} (F : Field K) (r : K) (cs : List K) → length (divide F r cs) ≡ length cs
unfolding divide
length-divide F r [] = refl
length-divide F r (c ∷ cs) = ap suc (length-divide F r cs)

module _ {K : Type 0} (F : Field K) where
  open F use {nothing, unit, plus, times, plus_assoc, plus_comm, plus-nothing, plus-self, times_assoc, times_comm, times-plus}

  -- v is the value of the higher coefficients at r, and q that of their quotient at x
  regrouped : (c v q r x : K) →
      plus c (times x (plus v (times (plus x r) q))) ≡ plus (plus c (times r v)) (times (plus x r) (plus v (times x q)))
  regrouped c v q r x =
      simp (times-plus, plus-times F, times_comm, times_left_comm F, plus_assoc, plus_comm, plus_back F)

  -- division with remainder by x + r: the remainder is the value at r
  pub divided : (c : K) (cs : List K) (r x : K) →
      value F (c ∷ cs) x ≡ plus (value F (c ∷ cs) r) (times (plus x r) (value F (divide F r cs) x))
  unfolding value divide
  divided c [] r x =
      let e : plus c (times x nothing) ≡ plus (plus c (times r nothing)) (times (plus x r) nothing) =
      simp (times-nothing F, plus-nothing) in e
  divided c (d ∷ ds) r x =
      ap (λ (s : K). plus c (times x s)) (divided d ds r x) ∙
      regrouped c (value F (d ∷ ds) r) (value F (divide F r ds) x) r x

  -- coefficients that are all nothing have the value nothing everywhere
  pub value-nothing : (cs : List K) → AllByRecursion (λ c. c ≡ nothing) cs → (x : K) → value F cs x ≡ nothing
  unfolding value
  value-nothing [] h x = refl
  value-nothing (c ∷ cs) h x =
      ap₂ (λ (s t : K). plus s (times x t)) h.0 (value-nothing cs h.1 x) ∙ nothing-plus F (times x nothing) ∙ times-nothing F x

  -- where the higher coefficients are nothing and a value is, the constant is
  first_nothing : (c : K) (cs : List K) (r : K) → AllByRecursion (λ d. d ≡ nothing) cs → value F (c ∷ cs) r ≡ nothing →
      AllByRecursion (λ d. d ≡ nothing) (c ∷ cs)
  unfolding value
  first_nothing c cs r rest h =
      let e : plus c (times r (value F cs r)) ≡ nothing = h in
      (rw (value-nothing cs rest r, times-nothing F r, plus-nothing c) at e, rest)

  nothing_divided : (r : K) (cs : List K) → AllByRecursion (λ c. c ≡ nothing) (divide F r cs) →
      AllByRecursion (λ c. c ≡ nothing) cs
  unfolding divide
  nothing_divided r [] h = h
  nothing_divided r (c ∷ cs) h = first_nothing c cs r (nothing_divided r cs h.1) h.0

  roots_divided : (c : K) (cs : List K) (r : K) (rs : List K) → value F (c ∷ cs) r ≡ nothing →
      AllByRecursion (λ s. r ≢ s) rs → AllByRecursion (λ s. value F (c ∷ cs) s ≡ nothing) rs →
      AllByRecursion (λ s. value F (divide F r cs) s ≡ nothing) rs
  roots_divided c cs r [] e d h = h
  roots_divided c cs r (s ∷ rs) e d h = (
    no_divisors F (plus s r) (value F (divide F r cs) s) (λ z. d.0 (sym (same_of_sum F s r z)))
        (cc (nothing-plus F (times (plus s r) (value F (divide F r cs) s)), divided c cs r s, e, h.0)),
    roots_divided c cs r rs e d.1 h.1,
  )

  -- a polynomial with as many roots as coefficients has no coefficient but nothing
  pub all_nothing : (rs cs : List K) → length cs ≤ length rs → Apart rs → AllByRecursion (λ r. value F cs r ≡ nothing) rs →
      AllByRecursion (λ c. c ≡ nothing) cs
  unfolding Apart
  all_nothing rs [] l d h = tt
  all_nothing [] (c ∷ cs) l d h = absurd (omega arith)
  all_nothing (r ∷ rs) (c ∷ cs) l d h =
      first_nothing c cs r
      (nothing_divided r cs
      (all_nothing rs (divide F r cs) (omega (arith, length-divide F r cs)) d.1 (roots_divided c cs r rs h.0 d.0 h.1)))
      h.0

  -- polynomials as functions: closed under sums and multiples

  pub IsPolynomial-more : (k m : ℕ) (P : K → Type 0) (f : K → K) → k ≤ m → IsPolynomial F k P f → IsPolynomial F m P f
  IsPolynomial-more k m P f l h = (h.0, omega (arith, h.1), h.2)

  pub IsPolynomial-same : (k : ℕ) (P : K → Type 0) (f g : K → K) → ((x : K) → P x → f x ≡ g x) →
      IsPolynomial F k P f → IsPolynomial F k P g
  IsPolynomial-same k P f g e h = (h.0, h.1, λ x p. h.2 x p ∙ e x p)

  pub IsPolynomial-nothing : (k : ℕ) (P : K → Type 0) → IsPolynomial F k P (λ x. nothing)
  unfolding value
  IsPolynomial-nothing k P = ([], omega arith, λ x p. refl)

  pub IsPolynomial-constant : (k : ℕ) (P : K → Type 0) (a : K) → IsPolynomial F (suc k) P (λ x. a)
  unfolding value
  IsPolynomial-constant k P a =
      (a ∷ [], omega arith, λ x p. ap (λ (s : K). plus a s) (times-nothing F x) ∙ plus-nothing a)

  -- the sum of two polynomials, place by place
  unfoldable pub added : List K → List K → List K
  added [] ds = ds
  added (c ∷ cs) [] = c ∷ cs
  added (c ∷ cs) (d ∷ ds) = plus c d ∷ added cs ds

  length-added : (k : ℕ) (cs ds : List K) → length cs ≤ k → length ds ≤ k → length (added cs ds) ≤ k
  unfolding added
  length-added k [] ds h l = l
  length-added k (c ∷ cs) [] h l = h
  length-added zero (c ∷ cs) (d ∷ ds) h l = absurd (omega arith)
  length-added (suc k) (c ∷ cs) (d ∷ ds) h l = omega (arith, length-added k cs ds (omega arith) (omega arith))

  pub value-added : (cs ds : List K) (x : K) → value F (added cs ds) x ≡ plus (value F cs x) (value F ds x)
  unfolding value added
  value-added [] ds x = sym (nothing-plus F (value F ds x))
  value-added (c ∷ cs) [] x = sym (plus-nothing (plus c (times x (value F cs x))))
  value-added (c ∷ cs) (d ∷ ds) x = rw (value-added cs ds x) (simp (times-plus, plus_assoc, plus_comm))

  unfoldable pub scaled : K → List K → List K
  scaled a [] = []
  scaled a (c ∷ cs) = times a c ∷ scaled a cs

  length-scaled : (a : K) (cs : List K) → length (scaled a cs) ≡ length cs
  unfolding scaled
  length-scaled a [] = refl
  length-scaled a (c ∷ cs) = ap suc (length-scaled a cs)

  pub value-scaled : (a : K) (cs : List K) (x : K) → value F (scaled a cs) x ≡ times a (value F cs x)
  unfolding value scaled
  value-scaled a [] x = sym (times-nothing F a)
  value-scaled a (c ∷ cs) x =
      rw (value-scaled a cs x, times_left_comm F x a (value F cs x)) (sym (times-plus a c (times x (value F cs x))))

  pub IsPolynomial-plus : (k : ℕ) (P : K → Type 0) (f g : K → K) → IsPolynomial F k P f → IsPolynomial F k P g →
      IsPolynomial F k P (λ x. plus (f x) (g x))
  IsPolynomial-plus k P f g h l = (
    added h.0 l.0,
    length-added k h.0 l.0 h.1 l.1,
    λ x p. value-added h.0 l.0 x ∙ ap₂ (λ (s t : K). plus s t) (h.2 x p) (l.2 x p),
  )

  pub IsPolynomial-times : (k : ℕ) (P : K → Type 0) (f : K → K) (a : K) → IsPolynomial F k P f →
      IsPolynomial F k P (λ x. times a (f x))
  IsPolynomial-times k P f a h = (
    scaled a h.0,
    omega (arith, length-scaled a h.0, h.1),
    λ x p. value-scaled a h.0 x ∙ ap (λ (s : K). times a s) (h.2 x p),
  )

  -- the product with x + q has one coefficient more
  pub IsPolynomial-line : (k : ℕ) (P : K → Type 0) (f : K → K) (q : K) → IsPolynomial F k P f →
      IsPolynomial F (suc k) P (λ x. times (plus x q) (f x))
  unfolding value
  IsPolynomial-line k P f q h =
      let higher : IsPolynomial F (suc k) P (λ x. times x (f x)) = (
        nothing ∷ h.0,
        omega (arith, h.1),
        λ x p. nothing-plus F (times x (value F h.0 x)) ∙ ap (λ (s : K). times x s) (h.2 x p),
      ) in
      IsPolynomial-same (suc k) P (λ x. plus (times x (f x)) (times q (f x))) (λ x. times (plus x q) (f x))
      (λ x p. sym (plus-times F x q (f x)))
      (IsPolynomial-plus (suc k) P (λ x. times x (f x)) (λ x. times q (f x)) higher
      (IsPolynomial-times (suc k) P f q (IsPolynomial-more k (suc k) P f (omega arith) h)))

  -- a sum of multiples of polynomials
  pub IsPolynomial-sum : {I : Type 0} (k : ℕ) (P : K → Type 0) (is : List I) (a : I → K) (f : I → K → K) →
      AllByRecursion (λ i. IsPolynomial F k P (f i)) is →
      IsPolynomial F k P (λ x. sum_over F is (λ i. times (a i) (f i x)))
  unfolding sum_over
  IsPolynomial-sum k P [] a f h = IsPolynomial-nothing k P
  IsPolynomial-sum k P (i ∷ is) a f h =
      IsPolynomial-plus k P (λ x. times (a i) (f i x)) (λ x. sum_over F is (λ j. times (a j) (f j x)))
      (IsPolynomial-times k P (f i) (a i) h.0) (IsPolynomial-sum k P is a f h.1)

  differences : (P : K → Type 0) (f g : K → K) (d : K → K) (rs : List K) → ((x : K) → P x → d x ≡ plus (f x) (g x)) →
      AllByRecursion P rs → AllByRecursion (λ r. f r ≡ g r) rs → AllByRecursion (λ r. d r ≡ nothing) rs
  differences P f g d [] e p h = tt
  differences P f g d (r ∷ rs) e p h = (cc (e r p.0, h.0, plus-self (g r)), differences P f g d rs e p.1 h.1)

  no_difference : (cs ds : List K) → length cs ≡ length ds → AllByRecursion (λ c. c ≡ nothing) (added cs ds) → cs ≡ ds
  unfolding added
  no_difference [] [] same h = refl
  no_difference (c ∷ cs) (d ∷ ds) same h = rw (same_of_sum F c d h.0, no_difference cs ds (omega arith) h.1)
  no_difference cs ds same h = absurd (omega arith)

  -- two polynomials with as many coefficients that agree at as many points have the same coefficients
  pub coefficients_unique : (rs cs ds : List K) → length cs ≡ length ds → length cs ≤ length rs → Apart rs →
      AllByRecursion (λ r. value F cs r ≡ value F ds r) rs → cs ≡ ds
  coefficients_unique rs cs ds same few d h =
      no_difference cs ds same
      (all_nothing rs (added cs ds) (length-added (length rs) cs ds few (omega arith)) d
      (differences (λ x. value F cs x ≡ value F ds x) (value F cs) (value F ds) (value F (added cs ds)) rs
      (λ x p. value-added cs ds x) h h))

  -- two polynomials with at most k coefficients that agree at k points agree everywhere
  pub polynomial_unique : (P : K → Type 0) (rs : List K) (f g : K → K) → Apart rs → AllByRecursion P rs →
      IsPolynomial F (length rs) P f → IsPolynomial F (length rs) P g → AllByRecursion (λ r. f r ≡ g r) rs →
      (x : K) → P x → f x ≡ g x
  polynomial_unique P rs f g d p h l e x q =
      let sum : IsPolynomial F (length rs) P (λ y. plus (f y) (g y)) = IsPolynomial-plus (length rs) P f g h l in
      same_of_sum F (f x) (g x)
      (sym (sum.2 x q) ∙
      value-nothing sum.0 (all_nothing rs sum.0 sum.1 d (differences P f g (value F sum.0) rs sum.2 p e)) x)
