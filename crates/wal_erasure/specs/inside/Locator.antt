-- The locator of the missing points: the product of x + point over the points that are not known.
use Rattle.std.specs.Prelude.{◌≡◌, ℕ, zero, suc, ◌<◌, List, [], ◌∷◌, slice_index_or, bit_xor, Bool}
use Rattle.std.specs.Prelude.{true, false, cond, eqb}
use Rattle.wal_gf.specs.Field.{times, inverse}
use Rattle.wal_gf.specs.declared.Gf.{Gf}
use Rattle.wal_code.specs.Weights.{element_at}

-- whether a point is known
unfoldable pub is_known : List ℕ → ℕ → Bool
is_known [] x = false
is_known (point ∷ known) x = cond (eqb point x) true (is_known known x)

-- the product of x + point over the points below n that are not known
unfoldable pub locator : List ℕ → ℕ → ℕ → ℕ
locator known zero x = 1
locator known (suc n) x =
    cond (is_known known n) (locator known n x) (times (bit_xor x n) (locator known n x))

-- the product over the missing points other than x
abbrev pub others : List ℕ → ℕ → ℕ → ℕ
others known n x = locator (x ∷ known) n x

-- the marks tell of each point below n whether it is known
abbrev pub AreMarks : List ℕ → ℕ → List Bool → Type 0
AreMarks known n marks =
    (point : ℕ) → point < n → slice_index_or marks point false ≡ is_known known point

-- at each known point below `end` the product over the missing points, and at each missing point
-- the inverse of the product over the others
abbrev pub AreFactors : List ℕ → ℕ → ℕ → List Gf → Type 0
AreFactors known n end factors =
    (x : ℕ) → x < end
    → element_at factors x ≡ cond (is_known known x) (others known n x) (inverse (others known n x))
