-- Reed-Solomon codewords: the values of a polynomial at the points 0, 1, .., where the point of an
-- index is the index itself.
use Rattle.std.specs.Prelude.{◌≡◌, ◌≢◌, ℕ, ◌<◌, ◌≤◌, List, [], ◌∷◌, length, slice_index, All}
use Rattle.std.specs.Prelude.{AllPairs, bit_xor, ◌==◌, cond}
use Rattle.wal_gf.specs.Field.{IsWord, times, inverse, xor_below}
use Rattle.wal_gf.specs.Polynomial.{evaluate}

-- no point occurs twice
abbrev pub Distinct : List ℕ → Type 0
Distinct points = AllPairs (λ point other. point ≢ other) points

-- at each index below n, the symbol is the value of one polynomial with at most k coefficients
pub record IsCodeword (k n : ℕ) (symbol_at : ℕ → ℕ) : Type 0 where
  pub coefficients : List ℕ
  pub few : length coefficients ≤ k
  pub words : All IsWord coefficients
  pub values : (i : ℕ) → i < n → symbol_at i ≡ evaluate coefficients i

-- out is the codeword of n words that begins with these words, and whose dimension is their number
pub record IsExtension (words : List ℕ) (n : ℕ) (out : List ℕ) : Type 0 where
  pub size : length out ≡ n
  pub codeword : IsCodeword (length words) n (slice_index out)
  pub begins : (i : ℕ) → i < length words → slice_index out i ≡ slice_index words i

-- a polynomial with at most as many coefficients as there are known points, which has these values
-- there
pub record PassesThrough (known values coefficients : List ℕ) : Type 0 where
  pub few : length coefficients ≤ length known
  pub words : All IsWord coefficients
  pub there : (i : ℕ) → i < length known
      → evaluate coefficients (slice_index known i) ≡ slice_index values i

-- (at + other) / (point + other), or 1 if other is point
unfoldable pub factor : ℕ → ℕ → ℕ → ℕ
factor point at other =
    cond (point == other) 1 (times (bit_xor at other) (inverse (bit_xor point other)))

-- the product of (at + other) / (point + other) over the other known points
unfoldable pub coefficient : List ℕ → ℕ → ℕ → ℕ
coefficient [] point at = 1
coefficient (other ∷ known) point at = times (factor point at other) (coefficient known point at)

-- the sum over the known points of the coefficient at a point times the value at the point's place
abbrev pub combination : List ℕ → (ℕ → ℕ) → ℕ → ℕ
combination known value at =
    xor_below (length known) (λ i. times (coefficient known (slice_index known i) at) (value i))

-- the coefficients at a point give each polynomial's value there from its values at the known
-- points
abbrev pub Interpolates : List ℕ → ℕ → Type 0
Interpolates known at =
    (coefficients : List ℕ) → length coefficients ≤ length known → All IsWord coefficients →
    evaluate coefficients at
    ≡ combination known (λ i. evaluate coefficients (slice_index known i)) at

-- the points that a table of coefficients is for: the known ones and the wanted ones
pub record Places : Type 0 where
  pub known : List ℕ
  pub wanted : List ℕ
