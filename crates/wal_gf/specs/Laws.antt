-- The laws of a field, for operations on words, and statements which show that the definitions of
-- Field are the textbook's.
use Rattle.std.specs.Prelude.{◌≡◌, ◌≢◌, ℕ, ◌^◌, ◌<◌, ◌≤◌, List, length, All, AllPairs, bit_xor}
use Rattle.wal_gf.specs.Field.{IsWord, modulus, product, remainder, times}
use Rattle.wal_gf.specs.Polynomial.{evaluate}

-- the operation takes two words to a word
abbrev pub StaysInWords : (ℕ → ℕ → ℕ) → Type 0
StaysInWords op = (a b : ℕ) → IsWord a → IsWord b → IsWord (op a b)

-- the operation is associative
abbrev pub Associates : (ℕ → ℕ → ℕ) → Type 0
Associates op = (a b c : ℕ) → IsWord a → IsWord b → IsWord c → op (op a b) c ≡ op a (op b c)

-- the operation is commutative
abbrev pub Commutes : (ℕ → ℕ → ℕ) → Type 0
Commutes op = (a b : ℕ) → IsWord a → IsWord b → op a b ≡ op b a

-- the unit leaves each word as it is
abbrev pub HasUnit : (ℕ → ℕ → ℕ) → ℕ → Type 0
HasUnit op unit = (a : ℕ) → IsWord a → op a unit ≡ a

-- the first operation distributes over the second, from the left
abbrev pub Distributes : (ℕ → ℕ → ℕ) → (ℕ → ℕ → ℕ) → Type 0
Distributes op over =
    (a b c : ℕ) → IsWord a → IsWord b → IsWord c → op a (over b c) ≡ over (op a b) (op a c)

-- each word is its own negative
abbrev pub SumsCancel : Type 0
SumsCancel = (a : ℕ) → IsWord a → bit_xor a a ≡ 0

-- each word but 0 has an inverse
abbrev pub HasInverses : (ℕ → ℕ) → Type 0
HasInverses inverse_of =
    (a : ℕ) → IsWord a → a ≢ 0 → IsWord (inverse_of a) × (times a (inverse_of a) ≡ 1)

-- a nonzero polynomial of degree below k has fewer than k roots: one with as many roots as
-- coefficients has no coefficient but 0
abbrev pub HasFewRoots : Type 0
HasFewRoots =
    (coefficients roots : List ℕ) → All IsWord coefficients → All IsWord roots
    → AllPairs (λ root other. root ≢ other) roots
    → All (λ root. evaluate coefficients root ≡ 0) roots
    → length coefficients ≤ length roots
    → All (λ c. c ≡ 0) coefficients

-- the remainder of the whole divided by the modulus: the whole is some quotient times the modulus,
-- plus the rest
abbrev pub IsLeft : ℕ → ℕ → Type 0
IsLeft whole rest =
    IsWord rest
    × ((quotient : ℕ) × IsWord quotient × (bit_xor (product 16 quotient modulus) rest ≡ whole))

-- `remainder` is division with remainder: its value is left, and nothing else is
abbrev pub DividesWithRemainder : Type 0
DividesWithRemainder =
    (whole : ℕ) → whole < 2 ^ 32
    → IsLeft whole (remainder 16 whole)
    × ((rest : ℕ) → IsLeft whole rest → rest ≡ remainder 16 whole)
