-- Vectors of bytes, lane by lane, and tables of products.
use Rattle.std.specs.Prelude.{◌≡◌, ℕ, ◌+◌, ◌*◌, ◌^◌, ◌/◌, ◌%◌, ◌<◌, List, length, slice_index}
use Rattle.std.specs.Prelude.{bit_xor}
use Rattle.wal_gf.specs.Field.{times}
use Rattle.wal_kernel.specs.declared.products.Multiples.{Multiples}
use Rattle.wal_kernel.specs.declared.products.NibbleTables.{NibbleTables}

-- there are n lanes, and lane k holds f k
pub record HasLanes (n : ℕ) (values : List ℕ) (f : ℕ → ℕ) : Type 0 where
  pub long : length values ≡ n
  pub each : (k : ℕ) → k < n → slice_index values k ≡ f k

-- the table of f at the numbers below 16, twice
abbrev pub IsTable : (ℕ → ℕ) → List ℕ → Type 0
IsTable f table = HasLanes 32 table (λ k. f (k % 16))

-- the bytes of the products of the factor and the numbers below 16
pub record AreMultiples (factor : ℕ) (products : Multiples) : Type 0 where
  pub high_bytes : IsTable (λ i. times factor i / 256) products.high
  pub low_bytes : IsTable (λ i. times factor i % 256) products.low

-- the products of the factor and the words with one nonzero nibble, for each of the four nibbles of
-- a word
pub record AreProducts (factor : ℕ) (tables : NibbleTables) : Type 0 where
  pub nibble0 : AreMultiples factor tables.nibble0
  pub nibble1 : AreMultiples (times factor 16) tables.nibble1
  pub nibble2 : AreMultiples (times factor 256) tables.nibble2
  pub nibble3 : AreMultiples (times factor 4096) tables.nibble3

-- the bytes of x^4 times the word of two bytes: its top four bits are shifted out, and added back
-- times x^12 + x^3 + x + 1
abbrev pub high_of_sixteenfold : ℕ → ℕ → ℕ
high_of_sixteenfold high low =
    bit_xor (high * 2 ^ 4 % 256) (bit_xor (low / 16) (high / 16 * 2 ^ 4 % 256))

abbrev pub low_of_sixteenfold : ℕ → ℕ → ℕ
low_of_sixteenfold high low =
    bit_xor (low * 2 ^ 4 % 256)
    (bit_xor (high / 16 * 2 ^ 3 % 256) (bit_xor (high / 16 * 2 ^ 1 % 256) (high / 16)))

-- the sum of the four functions' values at the four nibbles of the word of two bytes, the highest
-- first
abbrev pub nibble_sum : (ℕ → ℕ) → (ℕ → ℕ) → (ℕ → ℕ) → (ℕ → ℕ) → ℕ → ℕ → ℕ
nibble_sum f3 f2 f1 f0 high low =
    bit_xor (f3 (high / 16)) (bit_xor (f2 (high % 16)) (bit_xor (f1 (low / 16)) (f0 (low % 16))))

-- the word of a block of 32 that stands at lane k: of the four runs of eight words, the two in the
-- middle change places
abbrev pub word_of_lane : ℕ → ℕ
word_of_lane k = k % 8 + 16 * (k / 8 % 2) + 8 * (k / 16)
