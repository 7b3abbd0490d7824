-- What serves private functions and proofs beside Weights.
use Rattle.std.specs.Prelude.{ℕ, List, [], ◌∷◌, bit_xor}
use Rattle.wal_gf.specs.Field.{times}

-- the product of wanted + other over the points
unfoldable pub product_of_all : List ℕ → ℕ → ℕ
product_of_all [] wanted = 1
product_of_all (other ∷ points) wanted = times (bit_xor wanted other) (product_of_all points wanted)
