-- Polynomials over the field of words, as lists of coefficients with the constant first.
use Rattle.std.specs.Prelude.{ℕ, List, [], ◌∷◌, bit_xor}
use Rattle.wal_gf.specs.Field.{times}

-- the value at x of the polynomial with these coefficients
unfoldable pub evaluate : List ℕ → ℕ → ℕ
evaluate [] x = 0
evaluate (constant ∷ higher) x = bit_xor constant (times x (evaluate higher x))
