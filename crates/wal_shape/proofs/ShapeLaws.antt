-- The symbol size is the least even one that has room, and all sizes of a shape stay small.
use Rattle.wal_shape.proofs.Common.{◌≡◌, ℕ, ◌+◌, ◌*◌, ◌/◌, ◌%◌, ◌≤◌, ◌<◌, max, arith, inl, inr, ◌⊎◌, cases_lt, div-add-mod', mod_below, div_ceil, IsShape, IsSymbolSize, shard_count, cell_count, symbol_size, most_bytes}
use Rattle.std.proofs.Math.Nat.{mul-le-mul_left, lt_of_mul-lt-mul_left, le_of_mul-le-mul_left}

-- a quotient rounded up: exact where nothing is left over, and else one more
div_ceil-cases : (x y : ℕ) → 0 < y → ((y * div_ceil x y ≡ x) × (div_ceil x y ≡ x / y)) ⊎ ((y * (x / y) < x) × (x < y * div_ceil x y) × (y * div_ceil x y + 1 ≤ x + y) × (div_ceil x y ≡ x / y + 1))
div_ceil-cases x y positive =
    let whole = div-add-mod' x y in
    let below = mod_below x y positive in
    elim (cases_lt 0 (x % y)) [
      | inl some ↦ (let up : div_ceil x y ≡ x / y + 1 = omega arith in inr (omega arith, rw up (omega arith), rw up (omega arith), up))
      | inr none ↦ (let exact : div_ceil x y ≡ x / y = omega arith in inl (rw exact (omega arith), exact))
    ]

-- a quotient rounded up has room for what is divided
div_ceil-room : (x y : ℕ) → 0 < y → x ≤ y * div_ceil x y
div_ceil-room x y positive = elim (div_ceil-cases x y positive) [ inl e ↦ omega (arith, e.0) | inr e ↦ omega (arith, e.1) ]

-- it is rounded up by less than the divisor
div_ceil-close : (x y : ℕ) → 0 < y → y * div_ceil x y + 1 ≤ x + y
div_ceil-close x y positive = elim (div_ceil-cases x y positive) [ inl e ↦ omega (arith, e.0) | inr e ↦ e.2 ]

-- and no smaller number has room
div_ceil-least : (x y k : ℕ) → 0 < y → x ≤ y * k → div_ceil x y ≤ k
div_ceil-least x y k positive room =
    elim (div_ceil-cases x y positive) [
      | inl e ↦ (let same : y * div_ceil x y ≤ y * k = omega (arith, e.0) in le_of_mul-le-mul_left same positive)
      | inr e ↦ (let less : y * (x / y) < y * k = omega (arith, e.0) in let below : x / y < k = lt_of_mul-lt-mul_left y less in omega (arith, e.3))
    ]

cell_count-positive : (f : ℕ) → 0 < 2 * cell_count f
cell_count-positive f = omega arith

-- half of the symbol size
size-room : (c words length : ℕ) → length ≤ (2 * c) * words → length ≤ c * (2 * max 1 words)
size-room c words length room =
    let le : words ≤ max 1 words = omega arith in
    let more = mul-le-mul_left (2 * c) le in
    let same : (2 * c) * max 1 words ≡ c * (2 * max 1 words) = omega arith in
    omega (arith, more, same)

size-least : (c length t : ℕ) → 0 < 2 * c → t % 2 ≡ 0 → 2 ≤ t → length ≤ c * t → 2 * max 1 (div_ceil length (2 * c)) ≤ t
size-least c length t positive even two room =
    let half : 2 * (t / 2) ≡ t = omega arith in
    let room' : length ≤ (2 * c) * (t / 2) = (let same : (2 * c) * (t / 2) ≡ c * (2 * (t / 2)) = omega arith in rw (same, half) room) in
    let le = div_ceil-least length (2 * c) (t / 2) positive room' in
    omega (arith, le)

-- the symbol size is the least even number, at least 2, for which the source block has room
pub symbol_size-least : (f length : ℕ) → IsSymbolSize f length (symbol_size f length)
unfolding symbol_size
symbol_size-least f length = record {
  even = omega arith;
  positive = omega arith;
  room = size-room (cell_count f) (div_ceil length (2 * cell_count f)) length (div_ceil-room length (2 * cell_count f) (cell_count-positive f));
  least = λ t even two room. size-least (cell_count f) length t (cell_count-positive f) even two room;
}

-- where the blob fills each cell of the block, the cells are the symbols
pub symbol_size-filled : (f s : ℕ) → s % 2 ≡ 0 → 2 ≤ s → symbol_size f ((f + 1) * (2 * f + 1) * s) ≡ s
symbol_size-filled f s even two =
    let is = symbol_size-least f (cell_count f * s) in
    let most : symbol_size f (cell_count f * s) ≤ s = is.least s even two (omega arith) in
    let cells : 0 < cell_count f = omega arith in
    let least : s ≤ symbol_size f (cell_count f * s) = le_of_mul-le-mul_left is.room cells in
    omega (arith, most, least)

-- above the least size, the block is filled but for less than a word of each cell
size-close : (c length : ℕ) → 0 < 2 * c → (2 * max 1 (div_ceil length (2 * c)) ≡ 2) ⊎ (c * (2 * max 1 (div_ceil length (2 * c))) + 1 ≤ length + 2 * c)
size-close c length positive =
    let close = div_ceil-close length (2 * c) positive in
    elim (cases_lt 1 (div_ceil length (2 * c))) [
      | inl more ↦ (let is : max 1 (div_ceil length (2 * c)) ≡ div_ceil length (2 * c) = omega arith in inr (rw is (omega (arith, close))))
      | inr one ↦ (let is : max 1 (div_ceil length (2 * c)) ≡ 1 = omega arith in inl (rw is (omega arith)))
    ]

bound-filled : (f length s : ℕ) → f ≤ 333 → length ≤ most_bytes → 2 ≤ s → cell_count f * s + 1 ≤ length + 2 * cell_count f → shard_count f * shard_count f * s < 77497472
bound-filled f length s few short two close =
    let square : f * f ≤ f * 333 = mul-le-mul_left f few in
    let wide : f * 2 ≤ f * s = mul-le-mul_left f two in
    let cells : f * f * s + f * f * s + 3 * (f * s) + s + 1 ≤ length + 4 * (f * f) + 6 * f + 2 = omega arith in
    let area : shard_count f * shard_count f * s ≡ 9 * (f * f * s) + 6 * (f * s) + s = omega arith in
    rw area (omega arith)

bound-least : (f : ℕ) → f ≤ 333 → shard_count f * shard_count f * 2 < 77497472
bound-least f few =
    let square : f * f ≤ f * 333 = mul-le-mul_left f few in
    omega arith

-- the extended matrix of n rows and n columns has fewer than 77497472 bytes
pub matrix_bytes-bound : (f length : ℕ) → IsShape f length → shard_count f * shard_count f * symbol_size f length < 77497472
unfolding symbol_size
matrix_bytes-bound f length shape =
    let least = symbol_size-least f length in
    elim (size-close (cell_count f) length (cell_count-positive f)) [
      | inl two ↦ rw two (bound-least f shape.1)
      | inr close ↦ bound-filled f length (symbol_size f length) shape.1 shape.2 least.positive close
    ]
