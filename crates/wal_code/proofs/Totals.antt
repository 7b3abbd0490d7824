-- Sums below a bound, from their last term and from their first.
use Rattle.wal_code.proofs.Common.{◌≡◌, ◌∙◌, sym, ℕ, zero, suc, ◌+◌, ◌<◌, refl, arith, add-one, bit_xor, xor_below}
use Rattle.std.specs.Int.Bits.{xor_assoc, xor_zero_l, xor_zero_r}

pub xor_below-more : (n : ℕ) (f : ℕ → ℕ) → xor_below (n + 1) f ≡ bit_xor (xor_below n f) (f n)
unfolding xor_below
xor_below-more n f = rw add-one

pub xor_below-first : (n : ℕ) (f : ℕ → ℕ) → xor_below (suc n) f ≡ bit_xor (f 0) (xor_below n (λ i. f (suc i)))
unfolding xor_below
xor_below-first zero f = xor_zero_l (f 0) ∙ sym (xor_zero_r (f 0))
xor_below-first (suc n) f = rw (xor_below-first n f) (xor_assoc (f 0) (xor_below n (λ i. f (suc i))) (f (suc n)))

-- equal terms have equal sums
pub xor_below-same : (n : ℕ) (f g : ℕ → ℕ) → ((i : ℕ) → i < n → f i ≡ g i) → xor_below n f ≡ xor_below n g
unfolding xor_below
xor_below-same zero f g h = refl
xor_below-same (suc n) f g h = rw (xor_below-same n f g (λ i l. h i (omega arith)), h n (omega arith))
