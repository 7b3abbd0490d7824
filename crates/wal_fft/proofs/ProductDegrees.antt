-- The degree of a product of polynomials.
use Rattle.wal_fft.proofs.Common.{◌≡◌, ℕ, zero, suc, ◌+◌, ◌≤◌, List, [], ◌∷◌, length, sym, ap, ◌∙◌, arith, IsPolynomial, IsPolynomial-plus, IsPolynomial-times, IsPolynomial-line}
use Rattle.wal_gf.proofs.Algebra.{Field, nothing-times, plus-times, times-nothing}
use Rattle.wal_gf.proofs.Polynomials.{value}

module _ {K : Type 0} (F : Field K) where
  open F use {nothing, unit, plus, times, plus_assoc, plus_comm, plus-nothing, times_assoc, times_comm}

  split_product : (c x v g : K) → plus (times c g) (times (plus x nothing) (times v g)) ≡ times (plus c (times x v)) g
  split_product c x v g =
      ap (λ (s : K). plus (times c g) (times s (times v g))) (plus-nothing x)
      ∙ ap (plus (times c g)) (sym (times_assoc x v g)) ∙ sym (plus-times F c (times x v) g)

  -- the product of polynomials, of which the first is a list of coefficients
  pub product_of : (a b : ℕ) (P : K → Type 0) (g : K → K) → IsPolynomial F b P g → (cs : List K) → length cs ≤ suc a
      → IsPolynomial F (a + b) P (λ x. times (value F cs x) (g x))
  unfolding value
  product_of a b P g h [] few = ([], omega arith, λ x p. sym (nothing-times F (g x)))
  product_of zero b P g h (c ∷ []) few =
      let m = IsPolynomial-times F b P g c h in (
        m.0,
        omega (arith, m.1),
        λ x p. m.2 x p ∙ ap (λ (s : K). times s (g x)) (sym (plus-nothing c) ∙ ap (plus c) (sym (times-nothing F x))),
      )
  product_of zero b P g h (c ∷ (d ∷ ds)) few = absurd (omega arith)
  product_of (suc a) b P g h (c ∷ cs) few =
      let lower = IsPolynomial-times F b P g c h in
      let higher = IsPolynomial-line F (a + b) P (λ x. times (value F cs x) (g x)) nothing
      (product_of a b P g h cs (omega arith)) in
      let sum = IsPolynomial-plus F (suc a + b) P (λ x. times c (g x))
      (λ x. times (plus x nothing) (times (value F cs x) (g x)))
      (lower.0, omega (arith, lower.1), lower.2) (higher.0, omega (arith, higher.1), higher.2) in
      (sum.0, sum.1, λ x p. sum.2 x p ∙ split_product c x (value F cs x) (g x))
