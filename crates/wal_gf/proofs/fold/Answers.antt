use Rattle.wal_gf.proofs.Common.{◌≡◌, ℕ, ◌+◌, ◌*◌, ◌/◌, ◌%◌, ◌^◌, ◌<◌, ◌≤◌, bit_xor, bit_and, ap, ap₂, ◌∙◌, arith, rules, pow_mono, pow-add, mul_comm, and_mask, xor_lt, xor_mod, xor_shr, cancel, remainder}
use Rattle.wal_gf.proofs.Additive.{IsAdditive, shift-additive, sum-additive, same_by_table, all_below}
use Rattle.wal_gf.proofs.Products.{remainder-xor}
use Rattle.wal_gf.proofs.fold.Goals as goal

unfoldable folded : ℕ → ℕ
folded p =
    bit_xor (bit_xor (bit_xor (bit_xor (p % 65536) (p / 65536)) (p / 65536 * 2 % 4294967296)) (p / 65536 * 8 % 4294967296)) (p / 65536 * 4096 % 4294967296)

high-additive : (k : ℕ) → IsAdditive (λ p. p / 65536 * 2 ^ k % 4294967296)
high-additive k a b =
    ap (λ (s : ℕ). s % 2 ^ 32)
    (ap (λ (s : ℕ). s * 2 ^ k) (xor_shr a b 16) ∙ mul_comm (bit_xor (a / 65536) (b / 65536)) (2 ^ k) ∙ shift-additive k (a / 65536) (b / 65536)
    ∙ ap₂ (λ (s t : ℕ). bit_xor s t) (mul_comm (2 ^ k) (a / 65536)) (mul_comm (2 ^ k) (b / 65536)))
    ∙ xor_mod (a / 65536 * 2 ^ k) (b / 65536 * 2 ^ k) 32

folded-additive : IsAdditive folded
unfolding folded
folded-additive =
    sum-additive (λ p. bit_xor (bit_xor (bit_xor (p % 65536) (p / 65536)) (p / 65536 * 2 % 4294967296)) (p / 65536 * 8 % 4294967296)) (λ p. p / 65536 * 4096 % 4294967296)
    (sum-additive (λ p. bit_xor (bit_xor (p % 65536) (p / 65536)) (p / 65536 * 2 % 4294967296)) (λ p. p / 65536 * 8 % 4294967296)
    (sum-additive (λ p. bit_xor (p % 65536) (p / 65536)) (λ p. p / 65536 * 2 % 4294967296)
    (sum-additive (λ p. p % 65536) (λ p. p / 65536) (λ a b. xor_mod a b 16) (λ a b. xor_shr a b 16))
    (high-additive 1))
    (high-additive 3))
    (high-additive 12)

folded-remainder : (p : ℕ) → p < 2 ^ 32 → remainder 16 (folded p) ≡ remainder 16 p
unfolding all_below folded remainder cancel
folded-remainder =
    same_by_table 32 (λ p. remainder 16 (folded p)) (remainder 16)
    (λ a b. rw (folded-additive a b) (remainder-xor 16 (folded a) (folded b))) (remainder-xor 16) tt

masked : (p : ℕ) → bit_xor (bit_xor (bit_xor (bit_xor (bit_and p 65535) (p / 65536)) (p / 65536 * 2 % 4294967296)) (p / 65536 * 8 % 4294967296)) (p / 65536 * 4096 % 4294967296) ≡ folded p
unfolding folded
masked p =
    ap (λ (s : ℕ). bit_xor (bit_xor (bit_xor (bit_xor s (p / 65536)) (p / 65536 * 2 % 4294967296)) (p / 65536 * 8 % 4294967296)) (p / 65536 * 4096 % 4294967296)) (and_mask p 16)

pub returns-clause-same_remainder : goal.returns-clause-same_remainder
returns-clause-same_remainder c = ap (remainder 16) (masked c.args.polynomial) ∙ folded-remainder c.args.polynomial (search rules)

shorter : (p n : ℕ) → 16 ≤ n → p < 2 ^ (n + 4) → folded p < 2 ^ n
unfolding folded
shorter p n long fits =
    let words : 2 ^ 16 ≤ 2 ^ n = pow_mono long in
    let split : 2 ^ (n + 4) ≡ 2 ^ n * 16 = pow-add 2 n 4 in
    let low : p % 65536 < 2 ^ n = omega arith in
    let once : p / 65536 < 2 ^ n = omega arith in
    let twice : p / 65536 * 2 % 4294967296 < 2 ^ n = omega arith in
    let third : p / 65536 * 8 % 4294967296 < 2 ^ n = omega arith in
    let twelfth : p / 65536 * 4096 % 4294967296 < 2 ^ n = omega arith in
    xor_lt n _ _ (xor_lt n _ _ (xor_lt n _ _ (xor_lt n _ _ low once) twice) third) twelfth

pub returns-clause-shorter : goal.returns-clause-shorter
returns-clause-shorter c n long fits = omega (arith, masked c.args.polynomial, shorter c.args.polynomial n long fits)
