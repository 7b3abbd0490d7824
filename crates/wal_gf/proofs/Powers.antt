-- The laws of powers of a word.
use Rattle.wal_gf.proofs.Common.{◌≡◌, ℕ, zero, suc, ◌+◌, ◌<◌, refl, arith, zero-add, suc-add, times, power}
use Rattle.wal_gf.proofs.Products.{times-lt, times-one, one-times, times_assoc}

pub power-zero : (a : ℕ) → power a 0 ≡ 1
unfolding power
power-zero a = refl

pub power-suc : (a n : ℕ) → power a (suc n) ≡ times a (power a n)
unfolding power
power-suc a n = refl

pub power-lt : (a n : ℕ) → power a n < 65536
power-lt a zero = omega (arith, power-zero a)
power-lt a (suc n) = omega (arith, power-suc a n, times-lt a (power a n) (power-lt a n))

pub power-one : (a : ℕ) → a < 65536 → power a 1 ≡ a
power-one a low = cc (power-suc a 0, power-zero a, times-one a low)

pub power-add : (a m n : ℕ) → power a (m + n) ≡ times (power a m) (power a n)
power-add a zero n = cc (zero-add n, power-zero a, one-times (power a n) (power-lt a n))
power-add a (suc m) n =
    let grouped = times_assoc a (power a m) (power a n) (power-lt a m) (power-lt a n) in
    cc (suc-add m n, power-suc a (m + n), power-suc a m, power-add a m n)

-- the power of a square
pub power-square : (a n : ℕ) → a < 65536 → power (times a a) n ≡ power a (n + n)
power-square a zero low = cc (power-zero (times a a), power-zero a)
power-square a (suc n) low =
    let twice : suc n + suc n ≡ suc (suc (n + n)) = omega arith in
    let grouped = times_assoc a a (power a (n + n)) low (power-lt a (n + n)) in
    cc (power-suc (times a a) n, power-square a n low, power-suc a (n + n), power-suc a (suc (n + n)))
