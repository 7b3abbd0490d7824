-- The derivative of a polynomial as a difference quotient, in the basis of the transform.
use Rattle.std.specs.Prelude.{◌≡◌, ℕ, zero, suc, ◌+◌, ◌^◌, ◌<◌, List, [], ◌∷◌, slice_index, bit_xor}
use Rattle.wal_gf.specs.Field.{times}
use Rattle.wal_fft.specs.Transform.{skew, value, lane}

-- row j is the derivative of the j-th skew, which is the same everywhere
abbrev pub rates : List ℕ
rates = 1 ∷ 30723 ∷ 36712 ∷ 29482 ∷ 58012 ∷ 5937 ∷ 24386 ∷ 13416 ∷ 28363 ∷ 5433 ∷ []

abbrev pub rate : ℕ → ℕ
rate j = slice_index rates j

-- the factor that makes row j + 1 of the skews 1 at 2^(j+1)
abbrev pub scale : ℕ → ℕ
scale j = slice_index (30723 ∷ 4973 ∷ 60035 ∷ 613 ∷ 21230 ∷ 46348 ∷ 37670 ∷ 42719 ∷ 14201 ∷ []) j

-- t_j(difference) / difference, which is (t_j(x) + t_j(y)) / (x + y) for each x + y = difference
unfoldable pub slope : ℕ → ℕ → ℕ
slope zero difference = 1
slope (suc j) difference =
    times (scale j) (times (slope j difference) (bit_xor (skew j difference) 1))

-- the difference of a polynomial at x from its value at a point, divided by x + point
unfoldable pub quotient : ℕ → (ℕ → ℕ) → ℕ → ℕ → ℕ
quotient zero coefficients point x = 0
quotient (suc j) coefficients point x =
    bit_xor (bit_xor (quotient j coefficients point x)
    (times (skew j point) (quotient j (λ i. coefficients (2 ^ j + i)) point x)))
    (times (slope j (bit_xor x point)) (value j (λ i. coefficients (2 ^ j + i)) x))

-- at each word place, new has the coefficients of the derivative of the polynomial whose
-- coefficients old has
abbrev pub AreDerived : ℕ → ℕ → List ℕ → List ℕ → Type 0
AreDerived width level old new =
    (word : ℕ) → word < width → (x : ℕ)
    → value level (lane width new word) x ≡ quotient level (lane width old word) x x
