-- A coefficient of interpolation as a fraction: a product of differences over another.
use Rattle.wal_code.proofs.Common.{◌≡◌, ◌≢◌, ◌∙◌, sym, List, [], ◌∷◌, cond, inl, inr, arith}
use Rattle.wal_gf.proofs.Algebra.{Field, unit-times, times_left_comm, no_divisors, equal_or_not, same_of_sum, same-other}
use Rattle.wal_gf.proofs.Lagrange.{factor, coefficient}

-- w + q, or the unit where q is p
unfoldable pub difference : {K : Type 0} → Field K → K → K → K → K
difference F p w q = cond (F.same p q) F.unit (F.plus w q)

-- the product of w + q over the known points q other than p
unfoldable pub others : {K : Type 0} → Field K → List K → K → K → K
others F [] p w = F.unit
others F (q ∷ known) p w = F.times (difference F p w q) (others F known p w)

module _ {K : Type 0} (F : Field K) where
  open F use {nothing, unit, plus, times, inverse, same, times_assoc, times_comm, times-unit, times-inverse, same-to, same-from}

  inverse-only : (a b : K) → a ≢ nothing → times a b ≡ unit → b ≡ inverse a
  inverse-only a b n e =
      cc (unit-times F b, times-inverse a n, times_comm a (inverse a), times_assoc (inverse a) a b, times-unit (inverse a))

  inverse-unit : unit ≢ nothing → inverse unit ≡ unit
  inverse-unit n = sym (inverse-only unit unit n (times-unit unit))

  product-other : (a b : K) → a ≢ nothing → b ≢ nothing → times a b ≢ nothing
  product-other a b n m e = m (no_divisors F a b n e)

  grouped : (a b c d : K) → times (times a b) (times c d) ≡ times (times a c) (times b d)
  grouped a b c d = simp (times_assoc, times_left_comm F)

  inverse-times : (a b : K) → a ≢ nothing → b ≢ nothing → inverse (times a b) ≡ times (inverse a) (inverse b)
  inverse-times a b n m =
      sym (inverse-only (times a b) (times (inverse a) (inverse b)) (product-other a b n m)
      (grouped a b (inverse a) (inverse b) ∙ rw (times-inverse a n, times-inverse b m) (times-unit unit)))

  difference-other : unit ≢ nothing → (p q : K) → difference F p p q ≢ nothing
  unfolding difference
  difference-other n p q =
      elim (equal_or_not F p q) [
        | inl e ↦ λ h. n (rw (same-from p q e, difference) at h)
        | inr d ↦ λ h. d (same_of_sum F p q (rw (same-other F p q d, difference) at h))
      ]

  -- the differences of a point from the others are not nothing, nor is their product
  pub others-own : unit ≢ nothing → (known : List K) (p : K) → others F known p p ≢ nothing
  unfolding others
  others-own n [] p = n
  others-own n (q ∷ known) p =
      product-other (difference F p p q) (others F known p p) (difference-other n p q) (others-own n known p)

  factor-fraction : unit ≢ nothing → (p w q : K) → factor F p w q ≡ times (difference F p w q) (inverse (difference F p p q))
  unfolding factor difference
  factor-fraction n p w q = grind (arith, unit-times F (inverse unit), inverse-unit n)

  pub coefficient-fraction : unit ≢ nothing → (known : List K) (p w : K) →
      coefficient F known p w ≡ times (others F known p w) (inverse (others F known p p))
  unfolding coefficient others
  coefficient-fraction n [] p w = sym (unit-times F (inverse unit) ∙ inverse-unit n)
  coefficient-fraction n (q ∷ known) p w =
      rw (
        factor-fraction n p w q,
        coefficient-fraction n known p w,
        inverse-times (difference F p p q) (others F known p p) (difference-other n p q) (others-own n known p),
        coefficient,
        others,
      )
      (grouped (difference F p w q) (inverse (difference F p p q)) (others F known p w) (inverse (others F known p p)))
