-- How a coefficient is made: a product of differences times the inverse of another such product.
use Rattle.std.specs.Prelude.{◌≡◌, ℕ, ◌<◌, List, [], ◌∷◌, length, slice_index, slice_index_or}
use Rattle.std.specs.Prelude.{bit_xor, ◌==◌, cond}
use Rattle.wal_gf.specs.Field.{times, inverse}
use Rattle.wal_gf.specs.declared.Gf.{Gf}
use Rattle.wal_code.specs.Codeword.{coefficient}

-- the product of wanted + other over the other known points
unfoldable pub product_of_others : List ℕ → ℕ → ℕ → ℕ
product_of_others [] point wanted = 1
product_of_others (other ∷ known) point wanted =
    times (cond (point == other) 1 (bit_xor wanted other)) (product_of_others known point wanted)

-- the word of the element at a place
abbrev pub element_at : List Gf → ℕ → ℕ
element_at elements i = (slice_index_or elements i (record { 0 = 0 })).0

-- at each place, the inverse of the product of the point's differences from the other known points
abbrev pub AreScales : List ℕ → List Gf → Type 0
AreScales known scales =
    (i : ℕ) → i < length known →
    element_at scales i
    ≡ inverse (product_of_others known (slice_index known i) (slice_index known i))

-- at each place, the coefficient of the known point there at the wanted point
abbrev pub AreWeights : List ℕ → ℕ → List Gf → Type 0
AreWeights known wanted weights =
    (i : ℕ) → i < length known
    → element_at weights i ≡ coefficient known (slice_index known i) wanted
