-- The polynomial of least degree that has given values at given points.
use Rattle.std.specs.Prelude.{◌≡◌, ℕ, ◌-◌, ◌≤◌, All, List, ◌++◌, map, length, replicate}
use Rattle.std.specs.Prelude.{slice_index, EachIndex}
use Rattle.wal_gf.specs.declared.Gf.{Gf}
use Rattle.wal_gf.specs.Field.{IsWord}
use Rattle.wal_gf.specs.Polynomial.{evaluate}

-- the numbers of a list of field elements
abbrev pub words_of : List Gf → List ℕ
words_of elements = map (λ (element : Gf). element.0) elements

-- the polynomial has the i-th value at the i-th point
abbrev pub HasValues : List ℕ → List ℕ → List ℕ → Type 0
HasValues coefficients points values =
    EachIndex points (λ i. evaluate coefficients (slice_index points i) ≡ slice_index values i)

-- the same polynomial, padded with zeros to n coefficients
abbrev pub with_zeros : ℕ → List ℕ → List ℕ
with_zeros n coefficients = coefficients ++ replicate (n - length coefficients) 0

-- each polynomial of degree below the number of points that has these values is this one, but for
-- zeros at its end
abbrev pub IsOnlyWithValues : List ℕ → List ℕ → List ℕ → Type 0
IsOnlyWithValues coefficients points values =
    (others : List ℕ) → All IsWord others → length others ≤ length points
    → HasValues others points values → with_zeros (length points) others ≡ coefficients
