-- Functions that keep sums of polynomials over GF(2). On polynomials of degree below n such a function is known by its values at the powers of x below the n-th.
use Rattle.wal_gf.proofs.Common.{◌≡◌, ℕ, zero, suc, ◌+◌, ◌*◌, ◌/◌, ◌%◌, ◌^◌, ◌<◌, Bool, cond, T, bit_xor, sym, ap, ap₂, ◌∙◌, arith, zero-mul, one-mul, add-zero, zero-add, mul_comm, mod-lt, div-lt_iff_lt-mul, div-add-mod', pow_pos, pow-suc, eq-or-lt_of_le, ⊎_elim, true, false, eqb, eqb→eq, bit_at, xor_assoc, xor_self, xor_zero_l, xor_zero_r, xor_comm, xor_block, bit_at_xor, bit_at-lt, xor_below}

-- a function of sums is the sum of its values
abbrev pub IsAdditive : (ℕ → ℕ) → Type 0
IsAdditive f = (a b : ℕ) → f (bit_xor a b) ≡ bit_xor (f a) (f b)

-- ---- sums of two, three and four

pub xor_left_comm : (a b c : ℕ) → bit_xor a (bit_xor b c) ≡ bit_xor b (bit_xor a c)
xor_left_comm a b c = sym (xor_assoc a b c) ∙ rw (xor_comm a b) (xor_assoc b a c)

pub xor_middle : (a b c d : ℕ) → bit_xor (bit_xor a b) (bit_xor c d) ≡ bit_xor (bit_xor a c) (bit_xor b d)
xor_middle a b c d = simp (xor_assoc, xor_left_comm)

-- what is added twice is gone
pub xor_back : (a b : ℕ) → bit_xor a (bit_xor a b) ≡ b
xor_back a b = sym (xor_assoc a a b) ∙ rw xor_self (xor_zero_l b)

pub additive-zero : (f : ℕ → ℕ) → IsAdditive f → f 0 ≡ 0
additive-zero f keeps = ap f (sym (xor_self 0)) ∙ keeps 0 0 ∙ xor_self (f 0)

-- ---- scaling

pub scale_xor : (d a b : ℕ) → d < 2 → d * bit_xor a b ≡ bit_xor (d * a) (d * b)
scale_xor (suc (suc d)) a b low = absurd (omega arith)
scale_xor _ a b low = simp (zero-mul, one-mul, xor_zero_l)

pub scaled_sum : (d e a : ℕ) → d < 2 → e < 2 → (d + e) % 2 * a ≡ bit_xor (d * a) (e * a)
scaled_sum (suc (suc d)) e a low low' = absurd (omega arith)
scaled_sum d (suc (suc e)) a low low' = absurd (omega arith)
scaled_sum _ _ a low low' = simp (zero-mul, one-mul, xor_zero_l, xor_zero_r, xor_self)

pub shift-additive : (n : ℕ) → IsAdditive (λ a. 2 ^ n * a)
shift-additive n a b =
    mul_comm (2 ^ n) (bit_xor a b) ∙ sym (add-zero _) ∙ sym (xor_block n a b 0 0 (pow_pos n) (pow_pos n))
    ∙ ap₂ (λ (s t : ℕ). bit_xor s t) (add-zero _ ∙ mul_comm a (2 ^ n)) (add-zero _ ∙ mul_comm b (2 ^ n))

pub bit-additive : (i c : ℕ) → IsAdditive (λ a. bit_at a i * c)
bit-additive i c a b = ap (λ (d : ℕ). d * c) (bit_at_xor a b i) ∙ scaled_sum (bit_at a i) (bit_at b i) c (bit_at-lt a i) (bit_at-lt b i)

pub sum-additive : (f g : ℕ → ℕ) → IsAdditive f → IsAdditive g → IsAdditive (λ a. bit_xor (f a) (g a))
sum-additive f g keeps keeps' a b = ap₂ (λ (s t : ℕ). bit_xor s t) (keeps a b) (keeps' a b) ∙ xor_middle (f a) (f b) (g a) (g b)

pub xor_below-additive : (n : ℕ) (f : ℕ → ℕ → ℕ) → ((i : ℕ) → IsAdditive (f i)) → IsAdditive (λ a. xor_below n (λ i. f i a))
unfolding xor_below
xor_below-additive zero f keeps a b = sym (xor_self 0)
xor_below-additive (suc n) f keeps a b =
    ap₂ (λ (s t : ℕ). bit_xor s t) (xor_below-additive n f keeps a b) (keeps n a b)
    ∙ xor_middle (xor_below n (λ i. f i a)) (xor_below n (λ i. f i b)) (f n a) (f n b)

-- ---- functions that keep sums, and are equal at the powers of x

-- a number is the sum of its bits from n on and of those below
pub top_split : (n a : ℕ) → a ≡ bit_xor (a / 2 ^ n * 2 ^ n) (a % 2 ^ n)
top_split n a =
    sym (div-add-mod' a (2 ^ n))
    ∙ ap₂ (λ (s t : ℕ). s * 2 ^ n + t) (sym (xor_zero_r (a / 2 ^ n))) (sym (xor_zero_l (a % 2 ^ n)))
    ∙ sym (xor_block n (a / 2 ^ n) 0 0 (a % 2 ^ n) (pow_pos n) (mod-lt a (pow_pos n)))
    ∙ ap₂ (λ (s t : ℕ). bit_xor s t) (add-zero _) (ap (λ (s : ℕ). s + a % 2 ^ n) (zero-mul (2 ^ n)) ∙ zero-add _)

at_bit : (f g : ℕ → ℕ) (n d : ℕ) → IsAdditive f → IsAdditive g → d < 2 → f (2 ^ n) ≡ g (2 ^ n) → f (d * 2 ^ n) ≡ g (d * 2 ^ n)
at_bit f g n zero keeps keeps' low same = rw zero-mul (additive-zero f keeps ∙ sym (additive-zero g keeps'))
at_bit f g n (suc zero) keeps keeps' low same = rw one-mul same
at_bit f g n (suc (suc d)) keeps keeps' low same = absurd (omega arith)

pub same_by_powers : (n : ℕ) (f g : ℕ → ℕ) → IsAdditive f → IsAdditive g → ((i : ℕ) → i < n → f (2 ^ i) ≡ g (2 ^ i)) → (a : ℕ) → a < 2 ^ n → f a ≡ g a
same_by_powers zero f g keeps keeps' same a low =
    let none : a ≡ 0 = omega arith in rw none (additive-zero f keeps ∙ sym (additive-zero g keeps'))
same_by_powers (suc n) f g keeps keeps' same a low =
    let top : a / 2 ^ n < 2 = (div-lt_iff_lt-mul {x = a} {y = 2} (pow_pos n)).1 (omega (arith, pow-suc 2 n)) in
    let high = at_bit f g n (a / 2 ^ n) keeps keeps' top (same n (omega arith)) in
    let rest = same_by_powers n f g keeps keeps' (λ i below. same i (omega arith)) (a % 2 ^ n) (mod-lt a (pow_pos n)) in
    cc (top_split n a, keeps (a / 2 ^ n * 2 ^ n) (a % 2 ^ n), keeps' (a / 2 ^ n * 2 ^ n) (a % 2 ^ n))

-- ---- tests over all numbers below a bound

unfoldable pub all_below : ℕ → (ℕ → Bool) → Bool
all_below zero p = true
all_below (suc n) p = cond (p n) (all_below n p) false

cond-both : (b c : Bool) → T (cond b c false) → T b × T c
cond-both true c holds = (tt, holds)
cond-both false c holds = absurd holds

pub all_below-at : (n : ℕ) (p : ℕ → Bool) → T (all_below n p) → (i : ℕ) → i < n → T (p i)
unfolding all_below
all_below-at zero p holds i below = absurd (omega arith)
all_below-at (suc n) p holds i below =
    let both = cond-both (p n) (all_below n p) holds in
    ⊎_elim (λ e. rw e both.0) (λ l. all_below-at n p both.1 i l) (eq-or-lt_of_le (omega arith))

-- functions that keep sums are the same below 2 ^ n where a computed table says so of the powers of x
pub same_by_table : (n : ℕ) (f g : ℕ → ℕ) → IsAdditive f → IsAdditive g
    → T (all_below n (λ i. eqb (f (2 ^ i)) (g (2 ^ i)))) →
    (a : ℕ) → a < 2 ^ n → f a ≡ g a
same_by_table n f g keeps keeps' test =
    same_by_powers n f g keeps keeps' (λ i l. eqb→eq _ _ (all_below-at n (λ i. eqb (f (2 ^ i)) (g (2 ^ i))) test i l))
