-- Sums in a field over a list of indices, with their laws.
use Rattle.wal_gf.proofs.Common.{◌≡◌, ap₂, List, [], ◌∷◌, refl}
use Rattle.wal_gf.proofs.Algebra.{Field}

-- the sum of f over the list
unfoldable pub sum_over : {K I : Type 0} → Field K → List I → (I → K) → K
sum_over F [] f = F.nothing
sum_over F (i ∷ is) f = F.plus (f i) (sum_over F is f)

module _ {K : Type 0} (F : Field K) where
  open F use {nothing, unit, plus, times, plus_assoc, plus_comm, plus-nothing, times-plus}

  -- equal terms have equal sums
  pub sum_over-same : {I : Type 0} (is : List I) (f g : I → K) → ((i : I) → f i ≡ g i) → sum_over F is f ≡ sum_over F is g
  unfolding sum_over
  sum_over-same [] f g h = refl
  sum_over-same (i ∷ is) f g h = ap₂ (λ (s t : K). plus s t) (h i) (sum_over-same is f g h)
