-- `remainder` is division by the modulus: with a quotient it gives back what was divided, and it undoes a multiple of the modulus plus a word.
use Rattle.wal_gf.proofs.Common.{◌≡◌, ℕ, zero, suc, ◌+◌, ◌*◌, ◌%◌, ◌^◌, ◌<◌, eqb, T, bit_xor, refl, sym, ap, ◌∙◌, arith, mod-lt, lit<, bit_at, xor_self, xor_zero_l, xor_mod, modulus, xor_below, product, cancel, remainder, DividesWithRemainder}
use Rattle.wal_gf.proofs.Additive.{IsAdditive, bit-additive, sum-additive, same_by_table, all_below}
use Rattle.wal_gf.proofs.Products.{product-xor_left, cancel-xor, remainder-xor}

-- the powers of x whose multiples of the modulus `remainder` takes away
unfoldable pub quotient : ℕ → ℕ → ℕ
quotient zero p = 0
quotient (suc n) p = bit_xor (bit_at p (16 + n) * 2 ^ n) (quotient n (cancel n p))

quotient-xor : (n : ℕ) → IsAdditive (quotient n)
unfolding quotient
quotient-xor zero a b = sym (xor_self 0)
quotient-xor (suc n) a b =
    sum-additive (λ p. bit_at p (16 + n) * 2 ^ n) (λ p. quotient n (cancel n p)) (bit-additive (16 + n) (2 ^ n))
    (λ a b. ap (quotient n) (cancel-xor n a b) ∙ quotient-xor n (cancel n a) (cancel n b)) a b

-- ---- the quotient times the modulus, and the remainder, are what was divided

-- quotient times modulus, and the remainder, give back what was divided
pub divided : (p : ℕ) → p < 2 ^ 32 → bit_xor (product 16 (quotient 16 p) modulus) (remainder 16 p) ≡ p
unfolding all_below quotient product xor_below remainder cancel
divided =
    same_by_table 32 (λ p. bit_xor (product 16 (quotient 16 p) modulus) (remainder 16 p)) (λ p. p)
    (sum-additive (λ p. product 16 (quotient 16 p) modulus) (remainder 16)
    (λ a b. rw (quotient-xor 16 a b) (product-xor_left 16 modulus (quotient 16 a) (quotient 16 b))) (remainder-xor 16))
    (λ a b. refl) tt

-- ---- both are words

word_of : (f : ℕ → ℕ) → IsAdditive f → T (all_below 32 (λ i. eqb (f (2 ^ i)) (f (2 ^ i) % 2 ^ 16))) → (p : ℕ) → p < 2 ^ 32 → f p < 65536
word_of f keeps test p low =
    let short : f p ≡ f p % 2 ^ 16 =
    same_by_table 32 f (λ p. f p % 2 ^ 16) keeps (λ a b. rw (keeps a b) (xor_mod (f a) (f b) 16)) test p low in
    omega (arith, mod-lt (f p) {m = 2 ^ 16} (lit< tt))

pub remainder-lt : (p : ℕ) → p < 2 ^ 32 → remainder 16 p < 65536
unfolding all_below remainder cancel
remainder-lt = word_of (remainder 16) (remainder-xor 16) tt

quotient-lt : (p : ℕ) → p < 2 ^ 32 → quotient 16 p < 65536
unfolding all_below quotient cancel
quotient-lt = word_of (quotient 16) (quotient-xor 16) tt

-- ---- a multiple of the modulus leaves 0, and a word leaves itself

multiple-left : (q : ℕ) → q < 65536 → remainder 16 (product 16 q modulus) ≡ 0
unfolding all_below product xor_below remainder cancel
multiple-left =
    same_by_table 16 (λ q. remainder 16 (product 16 q modulus)) (λ q. 0)
    (λ a b. rw (product-xor_left 16 modulus a b) (remainder-xor 16 (product 16 a modulus) (product 16 b modulus)))
    (λ a b. sym (xor_self 0)) tt

pub word-left : (r : ℕ) → r < 65536 → remainder 16 r ≡ r
unfolding all_below remainder cancel
word-left = same_by_table 16 (remainder 16) (λ r. r) (remainder-xor 16) (λ a b. refl) tt

pub remainder_unique : (q r : ℕ) → q < 65536 → r < 65536 → remainder 16 (bit_xor (product 16 q modulus) r) ≡ r
remainder_unique q r low low' =
    rw (remainder-xor 16 (product 16 q modulus) r, multiple-left q low, word-left r low') (xor_zero_l r)

-- `remainder` is division with remainder
pub divides : DividesWithRemainder
divides p low = (
  (remainder-lt p low, (quotient 16 p, quotient-lt p low, divided p low)),
  λ r left. sym (remainder_unique left.1.0 r left.1.1 left.0) ∙ ap (remainder 16) left.1.2,
)
