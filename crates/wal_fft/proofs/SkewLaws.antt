-- The laws of skews: they keep sums, row j is 0 at the points below 2^j and 1 at 2^j, and each row comes from the one before.
use Rattle.wal_fft.proofs.Common.{◌≡◌, ℕ, zero, suc, ◌+◌, ◌*◌, ◌%◌, ◌^◌, ◌<◌, List, [], ◌∷◌, length, slice_index, T, eqb, bit_xor, refl, sym, ap, ap₂, ◌∙◌, arith, lit<, mod-lt, mul-le-mul_right, cases_lt, inl, inr, pow_pos, pow-suc, add-zero, zero-add, zero-mul, one-mul, eqb→eq, bit_at, xor_assoc, xor_self, xor_zero_l, xor_zero_r, xor_lt, xor_block, times, xor_below, IsAdditive, xor_middle, xor_back, bit-additive, xor_below-additive, all_below, all_below-at, times-xor_left, times-xor_right, times_comm, times-one, table, entry, skew, get_or_past, ◌≤◌, same_by_table}
use Rattle.std.proofs.lemmas.Nat.Bits.{bit_at-lt}
use Rattle.wal_gf.specs.Field as field

pub skew-additive : (j : ℕ) → IsAdditive (skew j)
unfolding skew
skew-additive j = xor_below-additive 10 (λ i x. bit_at x i * entry j i) (λ i. bit-additive i (entry j i))

-- ---- skews are words

small-word : (xs : List ℕ) → T (all_below (length xs) (λ k. eqb (slice_index xs k % 65536) (slice_index xs k)))
    → (k : ℕ) → slice_index xs k < 65536
small-word xs holds k =
    elim (cases_lt k (length xs)) [
      | inl inside ↦
          let same : slice_index xs k % 65536 ≡ slice_index xs k =
          eqb→eq _ _ (all_below-at (length xs) (λ k. eqb (slice_index xs k % 65536) (slice_index xs k)) holds k inside) in
          omega (arith, mod-lt (slice_index xs k) {m = 65536} (lit< tt))
      | inr past ↦ omega (arith, get_or_past xs k 0 past)
    ]

pub entry-lt : (j i : ℕ) → entry j i < 65536
unfolding all_below
entry-lt j i = small-word table tt (10 * j + i)

pub term-lt : (j x i : ℕ) → bit_at x i * entry j i < 65536
term-lt j x i =
    let bit : bit_at x i ≤ 1 = omega (arith, bit_at-lt x i) in
    omega (arith, mul-le-mul_right (entry j i) bit, entry-lt j i)

xor_below-lt : (n : ℕ) (f : ℕ → ℕ) → ((i : ℕ) → f i < 65536) → xor_below n f < 65536
unfolding xor_below
xor_below-lt zero f low = lit< tt
xor_below-lt (suc n) f low = xor_lt 16 (xor_below n f) (f n) (xor_below-lt n f low) (low n)

pub skew-lt : (j x : ℕ) → skew j x < 65536
unfolding skew
skew-lt j x = xor_below-lt 10 (λ i. bit_at x i * entry j i) (λ i. term-lt j x i)

-- ---- at sums of a multiple of 2^(j+1) and a number below it

pub skew-part : (n j q r : ℕ) → r < 2 ^ n → skew j (q * 2 ^ n + r) ≡ bit_xor (skew j (q * 2 ^ n)) (skew j r)
skew-part n j q r below =
    let whole : q * 2 ^ n + r ≡ bit_xor (q * 2 ^ n) r =
    cc (xor_block n q 0 0 r (pow_pos n) below, xor_zero_r q, xor_zero_l r, add-zero (q * 2 ^ n), zero-mul (2 ^ n), zero-add r) in
    ap (skew j) whole ∙ skew-additive j (q * 2 ^ n) r

pub skew-none : (j u : ℕ) → j < 10 → u < 2 ^ j → skew j u ≡ 0
unfolding all_below skew xor_below
skew-none j u few below =
    same_by_table j (skew j) (λ a. 0) (skew-additive j) (λ a b. sym (xor_self 0))
    (all_below-at 10 (λ j. all_below j (λ i. eqb (skew j (2 ^ i)) 0)) tt j few) u below

skew-unit : (j : ℕ) → j < 10 → skew j (2 ^ j) ≡ 1
unfolding all_below skew xor_below
skew-unit j few = eqb→eq _ _ (all_below-at 10 (λ j. eqb (skew j (2 ^ j)) 1) tt j few)

pub skew-low : (j q u : ℕ) → j < 10 → u < 2 ^ j → skew j (q * 2 ^ suc j + u) ≡ skew j (q * 2 ^ suc j)
skew-low j q u few below =
    skew-part (suc j) j q u (omega (arith, pow-suc 2 j)) ∙ ap (bit_xor (skew j (q * 2 ^ suc j))) (skew-none j u few below) ∙ xor_zero_r _

pub skew-high : (j q u : ℕ) → j < 10 → u < 2 ^ j → skew j (q * 2 ^ suc j + (2 ^ j + u)) ≡ bit_xor (skew j (q * 2 ^ suc j)) 1
skew-high j q u few below =
    skew-part (suc j) j q (2 ^ j + u) (omega (arith, pow-suc 2 j)) ∙ ap (bit_xor (skew j (q * 2 ^ suc j))) half
  where
    half : skew j (2 ^ j + u) ≡ 1
    half =
        ap (λ (s : ℕ). skew j (s + u)) (sym (one-mul (2 ^ j))) ∙ skew-part j j 1 u below
        ∙ ap₂ (λ (s t : ℕ). bit_xor s t) (ap (skew j) (one-mul (2 ^ j)) ∙ skew-unit j few) (skew-none j u few below)
        ∙ xor_zero_r 1

-- ---- each row from the one before

-- s times s + 1
abbrev pub line : ℕ → ℕ
line s = times s (bit_xor s 1)

-- what makes row j + 1 be 1 at 2^(j+1)
abbrev pub scale : ℕ → ℕ
scale j = slice_index (30723 ∷ 4973 ∷ 60035 ∷ 613 ∷ 21230 ∷ 46348 ∷ 37670 ∷ 42719 ∷ 14201 ∷ []) j

pub scale-lt : (j : ℕ) → scale j < 65536
unfolding all_below
scale-lt j = small-word (30723 ∷ 4973 ∷ 60035 ∷ 613 ∷ 21230 ∷ 46348 ∷ 37670 ∷ 42719 ∷ 14201 ∷ []) tt j

square-sum : (a b : ℕ) → a < 65536 → b < 65536 → times (bit_xor a b) (bit_xor a b) ≡ bit_xor (times a a) (times b b)
square-sum a b low low' =
    let grouped = xor_assoc (times a a) (times a b) (bit_xor (times b a) (times b b)) in
    let back = xor_back (times a b) (times b b) in
    cc (times-xor_left (bit_xor a b) a b, times-xor_right a a b, times-xor_right b a b, times_comm b a low' low)

line-is : (a : ℕ) → a < 65536 → line a ≡ bit_xor (times a a) a
line-is a low = times-xor_right a a 1 ∙ ap (bit_xor (times a a)) (times-one a low)

line-sum : (a b : ℕ) → a < 65536 → b < 65536 → line (bit_xor a b) ≡ bit_xor (line a) (line b)
line-sum a b low low' =
    line-is (bit_xor a b) (xor_lt 16 a b low low')
    ∙ ap (λ (s : ℕ). bit_xor s (bit_xor a b)) (square-sum a b low low')
    ∙ xor_middle (times a a) (times b b) a b
    ∙ ap₂ (λ (s t : ℕ). bit_xor s t) (sym (line-is a low)) (sym (line-is b low'))

raised-additive : (j : ℕ) → IsAdditive (λ x. times (scale j) (line (skew j x)))
raised-additive j a b =
    ap (λ (s : ℕ). times (scale j) (line s)) (skew-additive j a b)
    ∙ ap (times (scale j)) (line-sum (skew j a) (skew j b) (skew-lt j a) (skew-lt j b))
    ∙ times-xor_right (scale j) (line (skew j a)) (line (skew j b))

pub skew-step : (j x : ℕ) → j < 9 → x < 1024 → skew (suc j) x ≡ times (scale j) (line (skew j x))
unfolding all_below skew xor_below times field.product field.remainder field.cancel
skew-step j x few below =
    same_by_table 10 (skew (suc j)) (λ x. times (scale j) (line (skew j x))) (skew-additive (suc j)) (raised-additive j)
    (all_below-at 9 (λ j. all_below 10 (λ i. eqb (skew (suc j) (2 ^ i)) (times (scale j) (line (skew j (2 ^ i)))))) tt j few) x below

-- the first row is the point itself
pub skew-first : (x : ℕ) → x < 1024 → skew 0 x ≡ x
unfolding all_below skew xor_below
skew-first = same_by_table 10 (skew 0) (λ a. a) (skew-additive 0) (λ a b. refl) tt
