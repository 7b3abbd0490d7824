-- Each word but 0 has an inverse, its power 65534. Nothing is taken on trust: that squaring 16 times gives each word back is computed,
-- and that 0 and 1 are their own squares alone is shown by a function that undoes u^2 + u up to the lowest bit.
use Rattle.wal_gf.proofs.Common.{◌≡◌, ◌≢◌, ℕ, zero, suc, ◌+◌, ◌*◌, ◌%◌, ◌^◌, ◌<◌, List, [], ◌∷◌, get_or, bit_xor, refl, sym, ap, ◌∙◌, arith, mod-lt, mod-eq_of_lt, pow-suc, lit<, bit_at, xor_assoc, xor_self, xor_zero_r, xor_mod, xor_below, product, cancel, remainder, times, power, inverse}
use Rattle.wal_gf.proofs.Additive.{IsAdditive, additive-zero, bit-additive, sum-additive, xor_below-additive, same_by_table, all_below, xor_back}
use Rattle.wal_gf.proofs.Products.{times-lt, times_comm, times_assoc, times-xor_left, times-xor_right, times-zero, one-times}
use Rattle.wal_gf.proofs.Powers.{power-suc, power-lt, power-one, power-add, power-square}

-- ---- squaring keeps sums

unfoldable square : ℕ → ℕ
square a = times (a % 2 ^ 16) (a % 2 ^ 16)

square-is : (a : ℕ) → a < 65536 → square a ≡ times a a
unfolding square
square-is a low = rw (mod-eq_of_lt low)

square-sum : (a b : ℕ) → a < 65536 → b < 65536 → times (bit_xor a b) (bit_xor a b) ≡ bit_xor (times a a) (times b b)
square-sum a b low low' =
    let grouped = xor_assoc (times a a) (times a b) (bit_xor (times b a) (times b b)) in
    let back = xor_back (times a b) (times b b) in
    cc (times-xor_left (bit_xor a b) a b, times-xor_right a a b, times-xor_right b a b, times_comm b a low' low)

square-additive : IsAdditive square
unfolding square
square-additive a b =
    ap (λ (s : ℕ). times s s) (xor_mod a b 16)
    ∙ square-sum (a % 2 ^ 16) (b % 2 ^ 16) (mod-lt a (lit< tt)) (mod-lt b (lit< tt))

-- ---- squaring 16 times gives each word back

unfoldable squared : ℕ → ℕ → ℕ
squared zero a = a
squared (suc n) a = squared n (square a)

squared-additive : (n : ℕ) → IsAdditive (squared n)
unfolding squared
squared-additive zero a b = refl
squared-additive (suc n) a b = ap (squared n) (square-additive a b) ∙ squared-additive n (square a) (square b)

squared-power : (n a : ℕ) → a < 65536 → squared n a ≡ power a (2 ^ n)
unfolding squared
squared-power zero a low = sym (power-one a low)
squared-power (suc n) a low =
    let twice : 2 ^ n + 2 ^ n ≡ 2 ^ suc n = omega (arith, pow-suc 2 n) in
    ap (squared n) (square-is a low) ∙ squared-power n (times a a) (times-lt a a low) ∙ power-square a (2 ^ n) low ∙ ap (power a) twice

pub power-field : (a : ℕ) → a < 65536 → power a 65536 ≡ a
unfolding all_below squared square times product xor_below remainder cancel
power-field a low =
    sym (squared-power 16 a low) ∙ same_by_table 16 (squared 16) (λ a. a) (squared-additive 16) (λ a b. refl) tt a low

-- ---- 0 and 1 alone are their own squares

abbrev table : List ℕ
table =
    0x15e ∷ 0xa5b4 ∷ 0xa5b6 ∷ 0x1cf4 ∷ 0xa5b2 ∷ 0x2820 ∷ 0x1cfc ∷ 0x530 ∷ 0xa5a2 ∷ 0x96d2 ∷ 0x2800 ∷ 0x13cc ∷ 0x1cbc ∷ 0 ∷ 0x5b0 ∷ 0x55b0 ∷ []

-- undoes u^2 + u, up to the lowest bit of u
unfoldable back : ℕ → ℕ
back v = xor_below 16 (λ i. bit_at v i * get_or table i 0)

back-additive : IsAdditive back
unfolding back
back-additive = xor_below-additive 16 (λ i v. bit_at v i * get_or table i 0) (λ i. bit-additive i (get_or table i 0))

back-is : (u : ℕ) → u < 65536 → back (bit_xor (square u) u) ≡ bit_xor u (u % 2)
unfolding all_below back square times product xor_below remainder cancel
back-is =
    same_by_table 16 (λ u. back (bit_xor (square u) u)) (λ u. bit_xor u (u % 2))
    (λ a b. rw (sum-additive square (λ u. u) square-additive (λ a b. refl) a b)
    (back-additive (bit_xor (square a) a) (bit_xor (square b) b)))
    (sum-additive (λ u. u) (λ u. u % 2) (λ a b. refl) (λ a b. xor_mod a b 1)) tt

own_square : (u : ℕ) → u < 65536 → times u u ≡ u → u < 2
own_square u low same =
    let gone : bit_xor (square u) u ≡ 0 = rw (square-is u low, same) (xor_self u) in
    let equal : bit_xor u (u % 2) ≡ 0 = sym (back-is u low) ∙ rw gone (additive-zero back back-additive) in
    let lowest : u ≡ u % 2 = cc (xor_zero_r u, xor_back u (u % 2)) in
    omega (arith, mod-lt u {m = 2} (lit< tt))

-- ---- inverses

-- the power 65535 is its own square
unit-square : (a : ℕ) → a < 65536 → times (power a 65535) (power a 65535) ≡ power a 65535
unit-square a low = cc (power-add a 65535 65535, power-add a 65536 65534, power-field a low, power-suc a 65534)

pub times-inverse : (a : ℕ) → a < 65536 → a ≢ 0 → times a (power a 65534) ≡ 1
times-inverse a low some = cases (power a 65535) refl (own_square (power a 65535) (power-lt a 65535) (unit-square a low))
  where
    cases : (u : ℕ) → power a 65535 ≡ u → u < 2 → times a (power a 65534) ≡ 1
    cases zero none small = absurd (some (sym (power-field a low) ∙ power-suc a 65535 ∙ ap (times a) none ∙ times-zero a))
    cases (suc zero) one small = sym (power-suc a 65534) ∙ one
    cases (suc (suc u)) large small = absurd (omega arith)

pub inverse-lt : (a : ℕ) → inverse a < 65536
inverse-lt a = power-lt a 65534

-- a product that is 0 has a factor that is 0
pub zero_factor : (a b : ℕ) → a < 65536 → b < 65536 → a ≢ 0 → times a b ≡ 0 → b ≡ 0
zero_factor a b low low' some none =
    sym (one-times b low') ∙ ap (λ (s : ℕ). times s b) (sym (times-inverse a low some) ∙ times_comm a (inverse a) low (inverse-lt a))
    ∙ times_assoc (inverse a) a b low low' ∙ ap (times (inverse a)) none ∙ times-zero (inverse a)
