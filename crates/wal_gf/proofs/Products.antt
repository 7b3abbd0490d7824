-- The laws of the field's product: it keeps sums on both sides, it commutes and associates, 1 is its unit, and products are words.
-- Each law says that two functions are equal which keep sums in each argument, so it is computed at the powers of x.
use Rattle.wal_gf.proofs.Common.{◌≡◌, ℕ, zero, suc, ◌+◌, ◌*◌, ◌/◌, ◌%◌, ◌^◌, ◌<◌, Bool, eqb, T, bit_xor, refl, sym, ap, ap₂, ◌∙◌, arith, mul_comm, mod-lt, div-add-mod', eqb→eq, lit<, bit_at, xor_mod, xor_shr, bit_at_cat_low, bit_at_lowest, modulus, xor_below, product, cancel, remainder, times}
use Rattle.wal_gf.proofs.Additive.{IsAdditive, additive-zero, scale_xor, shift-additive, bit-additive, sum-additive, xor_below-additive, same_by_powers, same_by_table, all_below, all_below-at}

-- ---- sums are kept

pub product-xor_left : (n b : ℕ) → IsAdditive (λ a. product n a b)
unfolding product
product-xor_left n b = xor_below-additive n (λ i a. bit_at a i * (2 ^ i * b)) (λ i. bit-additive i (2 ^ i * b))

pub product-xor_right : (n a : ℕ) → IsAdditive (λ b. product n a b)
unfolding product
product-xor_right n a =
    xor_below-additive n (λ i b. bit_at a i * (2 ^ i * b)) (λ i b c. ap (λ (s : ℕ). bit_at a i * s) (shift-additive i b c)
    ∙ scale_xor (bit_at a i) (2 ^ i * b) (2 ^ i * c) (mod-lt (a / 2 ^ i) (lit< tt)))

pub cancel-xor : (i : ℕ) → IsAdditive (cancel i)
unfolding cancel
cancel-xor i = sum-additive (λ p. p) (λ p. bit_at p (16 + i) * (2 ^ i * modulus)) (λ a b. refl) (bit-additive (16 + i) (2 ^ i * modulus))

pub remainder-xor : (n : ℕ) → IsAdditive (remainder n)
unfolding remainder
remainder-xor zero a b = refl
remainder-xor (suc n) a b = ap (remainder n) (cancel-xor n a b) ∙ remainder-xor n (cancel n a) (cancel n b)

pub times-xor_left : (b : ℕ) → IsAdditive (λ a. times a b)
unfolding times
times-xor_left b a c = ap (remainder 16) (product-xor_left 16 b a c) ∙ remainder-xor 16 (product 16 a b) (product 16 c b)

pub times-xor_right : (a : ℕ) → IsAdditive (times a)
unfolding times
times-xor_right a b c = ap (remainder 16) (product-xor_right 16 a b c) ∙ remainder-xor 16 (product 16 a b) (product 16 a c)

pub zero-times : (b : ℕ) → times 0 b ≡ 0
zero-times b = additive-zero (λ a. times a b) (times-xor_left b)

pub times-zero : (a : ℕ) → times a 0 ≡ 0
times-zero a = additive-zero (times a) (times-xor_right a)

-- ---- equality of functions that keep sums in each argument, from one test on powers of x

abbrev pub IsBilinear : (ℕ → ℕ → ℕ) → Type 0
IsBilinear f = ((a : ℕ) → IsAdditive (f a)) × ((b : ℕ) → IsAdditive (λ a. f a b))

abbrev same_at_powers : (ℕ → ℕ → ℕ) → (ℕ → ℕ → ℕ) → Bool
same_at_powers f g = all_below 16 (λ i. all_below 16 (λ j. eqb (f (2 ^ i) (2 ^ j)) (g (2 ^ i) (2 ^ j))))

pub same_bilinear : (f g : ℕ → ℕ → ℕ) → IsBilinear f → IsBilinear g → T (same_at_powers f g) → (a b : ℕ) → a < 2 ^ 16 → b < 2 ^ 16 → f a b ≡ g a b
same_bilinear f g keeps keeps' test a b low low' =
    same_by_powers 16 (λ x. f x b) (λ x. g x b) (keeps.1 b) (keeps'.1 b)
    (λ i within. same_by_powers 16 (f (2 ^ i)) (g (2 ^ i)) (keeps.0 (2 ^ i)) (keeps'.0 (2 ^ i))
    (λ j within'. eqb→eq _ _ (all_below-at 16 (λ j. eqb (f (2 ^ i) (2 ^ j)) (g (2 ^ i) (2 ^ j)))
    (all_below-at 16 (λ i. all_below 16 (λ j. eqb (f (2 ^ i) (2 ^ j)) (g (2 ^ i) (2 ^ j)))) test i within) j within'))
    b low')
    a low

times-bilinear : IsBilinear times
times-bilinear = (times-xor_right, times-xor_left)

-- ---- the first factor counts below 2^16 alone

bit_at-mod : (a n i : ℕ) → i < n → bit_at (a % 2 ^ n) i ≡ bit_at a i
bit_at-mod a n i below = sym (bit_at_cat_low (a / 2 ^ n) n (a % 2 ^ n) i below) ∙ ap (λ (s : ℕ). bit_at s i) (div-add-mod' a (2 ^ n))

xor_below-same : (n : ℕ) (f g : ℕ → ℕ) → ((i : ℕ) → i < n → f i ≡ g i) → xor_below n f ≡ xor_below n g
unfolding xor_below
xor_below-same zero f g same = refl
xor_below-same (suc n) f g same = ap₂ (λ (s t : ℕ). bit_xor s t) (xor_below-same n f g (λ i below. same i (omega arith))) (same n (omega arith))

pub times-low : (a b : ℕ) → times a b ≡ times (a % 2 ^ 16) b
unfolding times product
times-low a b =
    ap (remainder 16) (xor_below-same 16 (λ i. bit_at a i * (2 ^ i * b)) (λ i. bit_at (a % 2 ^ 16) i * (2 ^ i * b))
    (λ i below. ap (λ (d : ℕ). d * (2 ^ i * b)) (sym (bit_at-mod a 16 i below))))

-- ---- products are words

word-bilinear : IsBilinear (λ a b. times a b % 2 ^ 16)
word-bilinear = (
  λ a b c. ap (λ (s : ℕ). s % 2 ^ 16) (times-xor_right a b c) ∙ xor_mod (times a b) (times a c) 16,
  λ b a c. ap (λ (s : ℕ). s % 2 ^ 16) (times-xor_left b a c) ∙ xor_mod (times a b) (times c b) 16,
)

short : (a b : ℕ) → a < 2 ^ 16 → b < 2 ^ 16 → times a b ≡ times a b % 2 ^ 16
unfolding all_below times product xor_below remainder cancel
short = same_bilinear times (λ a b. times a b % 2 ^ 16) times-bilinear word-bilinear tt

pub times-lt : (a b : ℕ) → b < 65536 → times a b < 65536
times-lt a b low =
    let within = mod-lt (times (a % 2 ^ 16) b) {m = 2 ^ 16} (lit< tt) in
    omega (arith, times-low a b, short (a % 2 ^ 16) b (mod-lt a (lit< tt)) low)

-- ---- commutativity, associativity, the unit

pub times_comm : (a b : ℕ) → a < 65536 → b < 65536 → times a b ≡ times b a
unfolding all_below times product xor_below remainder cancel
times_comm = same_bilinear times (λ a b. times b a) times-bilinear (times-xor_left, times-xor_right) tt

assoc_check : T (all_below 16 (λ i. all_below 16 (λ j. all_below 16 (λ k. eqb (times (times (2 ^ i) (2 ^ j)) (2 ^ k)) (times (2 ^ i) (times (2 ^ j) (2 ^ k)))))))
unfolding all_below times product xor_below remainder cancel
assoc_check = tt

pub times_assoc : (a b c : ℕ) → b < 65536 → c < 65536 → times (times a b) c ≡ times a (times b c)
times_assoc a b c low low' =
    ap (λ (s : ℕ). times s c) (times-low a b)
    ∙ same_by_powers 16 (λ x. times (times x b) c) (λ x. times x (times b c))
    (λ x y. ap (λ (s : ℕ). times s c) (times-xor_left b x y) ∙ times-xor_left c (times x b) (times y b))
    (times-xor_left (times b c)) at_power (a % 2 ^ 16) (mod-lt a (lit< tt))
    ∙ sym (times-low a (times b c))
  where
    at_power : (i : ℕ) → i < 16 → times (times (2 ^ i) b) c ≡ times (2 ^ i) (times b c)
    at_power i within =
        same_bilinear (λ b c. times (times (2 ^ i) b) c) (λ b c. times (2 ^ i) (times b c)) (
          λ b c d. times-xor_right (times (2 ^ i) b) c d,
          λ c b d. ap (λ (s : ℕ). times s c) (times-xor_right (2 ^ i) b d) ∙ times-xor_left c (times (2 ^ i) b) (times (2 ^ i) d),
        ) (
          λ b c d. ap (times (2 ^ i)) (times-xor_right b c d) ∙ times-xor_right (2 ^ i) (times b c) (times b d),
          λ c b d. ap (times (2 ^ i)) (times-xor_left c b d) ∙ times-xor_right (2 ^ i) (times b c) (times d c),
        )
        (all_below-at 16 (λ i. all_below 16 (λ j. all_below 16 (λ k. eqb (times (times (2 ^ i) (2 ^ j)) (2 ^ k)) (times (2 ^ i) (times (2 ^ j) (2 ^ k)))))) assoc_check i within)
        b c low low'

pub one-times : (a : ℕ) → a < 65536 → times 1 a ≡ a
unfolding all_below times product xor_below remainder cancel
one-times = same_by_table 16 (times 1) (λ a. a) (times-xor_right 1) (λ a b. refl) tt

pub times-one : (a : ℕ) → a < 65536 → times a 1 ≡ a
times-one a low = rw (times_comm a 1 low (lit< tt)) (one-times a low)

pub times_left_comm : (a b c : ℕ) → a < 65536 → b < 65536 → c < 65536 → times a (times b c) ≡ times b (times a c)
times_left_comm a b c low low' low'' = sym (times_assoc a b c low' low'')
    ∙ rw (times_comm a b low low') (times_assoc b a c low low'')

-- ---- one step of shift and add

-- x times a word
abbrev pub doubled : ℕ → ℕ
doubled b = bit_xor (b * 2 % 2 ^ 16) (bit_at b 15 * 0x100B)

doubled-additive : IsAdditive doubled
doubled-additive =
    sum-additive (λ b. b * 2 % 2 ^ 16) (λ b. bit_at b 15 * 0x100B) (λ a b.
    let twice = mul_comm (bit_xor a b) 2 ∙ shift-additive 1 a b ∙ ap₂ (λ (s t : ℕ). bit_xor s t) (mul_comm 2 a) (mul_comm 2 b) in
    ap (λ (s : ℕ). s % 2 ^ 16) twice ∙ xor_mod (a * 2) (b * 2) 16) (bit-additive 15 0x100B)

-- the product as what the lowest bit of a brings, and the rest of a times the doubled b
pub times-step : (a b : ℕ) → a < 65536 → b < 65536 → times a b ≡ bit_xor (a % 2 * b) (times (a / 2) (doubled b))
unfolding all_below times product xor_below remainder cancel
times-step =
    same_bilinear times (λ a b. bit_xor (a % 2 * b) (times (a / 2) (doubled b))) times-bilinear (right, left) tt
  where
    lowest : (b : ℕ) → IsAdditive (λ a. a % 2 * b)
    lowest b x y =
        ap (λ (d : ℕ). d * b) (sym (bit_at_lowest (bit_xor x y))) ∙ bit-additive 0 b x y
        ∙ ap₂ (λ (s t : ℕ). bit_xor (s * b) (t * b)) (bit_at_lowest x) (bit_at_lowest y)

    left : (b : ℕ) → IsAdditive (λ a. bit_xor (a % 2 * b) (times (a / 2) (doubled b)))
    left b = sum-additive (λ a. a % 2 * b) (λ a. times (a / 2) (doubled b)) (lowest b)
        (λ x y. ap (λ (s : ℕ). times s (doubled b)) (xor_shr x y 1) ∙ times-xor_left (doubled b) (x / 2) (y / 2))

    right : (a : ℕ) → IsAdditive (λ b. bit_xor (a % 2 * b) (times (a / 2) (doubled b)))
    right a = sum-additive (λ b. a % 2 * b) (λ b. times (a / 2) (doubled b)) (λ x y. scale_xor (a % 2) x y (mod-lt a (lit< tt)))
        (λ x y. ap (times (a / 2)) (doubled-additive x y) ∙ times-xor_right (a / 2) (doubled x) (doubled y))
