-- The field of 65536 elements: polynomials over GF(2) of degree below 16, modulo x^16 + x^12 +
-- x^3 + x + 1.
-- A number stands for the polynomial whose coefficient of x^i is the number's bit i. The sum of two
-- is `bit_xor`.
use Rattle.std.specs.Prelude.{ℕ, zero, suc, ◌+◌, ◌*◌, ◌^◌, ◌<◌, bit_xor}
use Rattle.std.specs.Int.{bit_at}

-- a polynomial of degree below 16, which is an element of the field
abbrev pub IsWord : ℕ → Type 0
IsWord n = n < 65536

-- x^16 + x^12 + x^3 + x + 1
abbrev pub modulus : ℕ
modulus = 0x1100B

-- the sum of f 0, .., f (n - 1), as polynomials over GF(2)
unfoldable pub xor_below : ℕ → (ℕ → ℕ) → ℕ
xor_below zero f = 0
xor_below (suc n) f = bit_xor (xor_below n f) (f n)

-- the product of two polynomials, the first of degree below n: the sum of a_i * x^i * b
unfoldable pub product : ℕ → ℕ → ℕ → ℕ
product n a b = xor_below n (λ i. bit_at a i * (2 ^ i * b))

-- a polynomial without its term of degree 16 + i: if it has that term, x^i times the modulus is
-- subtracted
unfoldable pub cancel : ℕ → ℕ → ℕ
cancel i bits = bit_xor bits (bit_at bits (16 + i) * (2 ^ i * modulus))

-- the remainder of a polynomial of degree below 16 + n, divided by the modulus
unfoldable pub remainder : ℕ → ℕ → ℕ
remainder zero bits = bits
remainder (suc n) bits = remainder n (cancel n bits)

-- the product of two elements
unfoldable pub times : ℕ → ℕ → ℕ
times a b = remainder 16 (product 16 a b)

-- a to the power n
unfoldable pub power : ℕ → ℕ → ℕ
power a zero = 1
power a (suc n) = times a (power a n)

-- the element whose product with a is 1, for each a but 0
abbrev pub inverse : ℕ → ℕ
inverse a = power a 65534
