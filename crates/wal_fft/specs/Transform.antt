-- The additive Fourier transform (Lin, Chung, Han: "Novel polynomial basis and its application to
-- Reed-Solomon erasure codes", 2014). A polynomial is a sum of coefficients times products of
-- skews: t_j is the additive function of degree 2^j whose roots are the points below 2^j, and which
-- is 1 at the point 2^j. The product of the t_j at the bits j of a number is the basis polynomial
-- of that number, and its degree is the number.
use Rattle.std.specs.Prelude.{◌≡◌, ℕ, zero, suc, ◌+◌, ◌*◌, ◌^◌, ◌<◌, ◌≤◌, List, [], ◌∷◌, length}
use Rattle.std.specs.Prelude.{slice_index, bit_xor}
use Rattle.std.specs.Int.{bit_at}
use Rattle.wal_gf.specs.Field.{times, xor_below}
use Rattle.wal_kernel.specs.Region.{word_at}

-- row j is t_j at the points 1, 2, 4, .., 512
abbrev pub table : List ℕ
table =
    1 ∷ 2 ∷ 4 ∷ 8 ∷ 16 ∷ 32 ∷ 64 ∷ 128 ∷ 256 ∷ 512 ∷
    0 ∷ 1 ∷ 6 ∷ 28 ∷ 120 ∷ 496 ∷ 2016 ∷ 8128 ∷ 32640 ∷ 61195 ∷
    0 ∷ 0 ∷ 1 ∷ 22 ∷ 380 ∷ 6072 ∷ 27259 ∷ 49258 ∷ 55572 ∷ 16063 ∷
    0 ∷ 0 ∷ 0 ∷ 1 ∷ 278 ∷ 1911 ∷ 4233 ∷ 62400 ∷ 50830 ∷ 61466 ∷
    0 ∷ 0 ∷ 0 ∷ 0 ∷ 1 ∷ 4381 ∷ 30643 ∷ 46236 ∷ 10498 ∷ 26502 ∷
    0 ∷ 0 ∷ 0 ∷ 0 ∷ 0 ∷ 1 ∷ 2787 ∷ 52915 ∷ 10027 ∷ 29273 ∷
    0 ∷ 0 ∷ 0 ∷ 0 ∷ 0 ∷ 0 ∷ 1 ∷ 22215 ∷ 57265 ∷ 34140 ∷
    0 ∷ 0 ∷ 0 ∷ 0 ∷ 0 ∷ 0 ∷ 0 ∷ 1 ∷ 45184 ∷ 2176 ∷
    0 ∷ 0 ∷ 0 ∷ 0 ∷ 0 ∷ 0 ∷ 0 ∷ 0 ∷ 1 ∷ 48047 ∷
    0 ∷ 0 ∷ 0 ∷ 0 ∷ 0 ∷ 0 ∷ 0 ∷ 0 ∷ 0 ∷ 1 ∷ []

-- t_j at the point 2^i
abbrev pub entry : ℕ → ℕ → ℕ
entry j i = slice_index table (10 * j + i)

-- t_j at the point x below 1024: it is additive, so this is the sum of its values at the bits of x
unfoldable pub skew : ℕ → ℕ → ℕ
skew j x = xor_below 10 (λ i. bit_at x i * entry j i)

-- the value at x of the polynomial with these 2^j coefficients in the basis above
unfoldable pub value : ℕ → (ℕ → ℕ) → ℕ → ℕ
value zero coefficients x = coefficients 0
value (suc j) coefficients x =
    bit_xor (value j coefficients x) (times (skew j x) (value j (λ i. coefficients (2 ^ j + i)) x))

-- one word of the k-th run of `width` words
abbrev pub lane : ℕ → List ℕ → ℕ → ℕ → ℕ
lane width bytes word k = word_at bytes (width * k + word)

-- At each word place, new has the values, at the points of this block from `from` to below `to`, of
-- the polynomial whose coefficients old has. Block `index` has the 2^level points from index *
-- 2^level on.
abbrev pub AreValues : ℕ → ℕ → ℕ → ℕ → ℕ → List ℕ → List ℕ → Type 0
AreValues width level index from to old new =
    (word : ℕ) → word < width → (i : ℕ) → i < 2 ^ level → from ≤ index * 2 ^ level + i
    → index * 2 ^ level + i < to
    → lane width new word i ≡ value level (lane width old word) (index * 2 ^ level + i)

-- At each word place, new has the coefficients of a polynomial whose values at the first `known`
-- points of this block old has, and from `known` on the coefficients are those that old has.
pub record AreCoefficients (width level index known : ℕ) (old new : List ℕ) : Type 0 where
  pub values : (word : ℕ) → word < width → (i : ℕ) → i < known
      → lane width old word i ≡ value level (lane width new word) (index * 2 ^ level + i)
  pub others : (word : ℕ) → word < width → (i : ℕ) → known ≤ i → i < 2 ^ level
      → lane width new word i ≡ lane width old word i

-- f was added to each word from `from` on
pub record WasAdded (f : ℕ → ℕ) (from : ℕ) (old new : List ℕ) : Type 0 where
  pub long : length new ≡ length old
  pub kept : (place : ℕ) → place < from → word_at new place ≡ word_at old place
  pub added : (place : ℕ) → from ≤ place → 2 * place + 1 < length old
      → word_at new place ≡ bit_xor (word_at old place) (f place)

-- a factor times each word of the source
abbrev pub scaled : ℕ → List ℕ → ℕ → ℕ
scaled factor source place = times factor (word_at source place)
