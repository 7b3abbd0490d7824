-- Products of words, from products of their nibbles.
use Rattle.wal_kernel.proofs.Common.{◌≡◌, ℕ, suc, w16, ◌+◌, ◌*◌, ◌/◌, ◌%◌, ◌^◌, ◌<◌, T, eqb, bit_xor, refl, sym, ap, ap₂, ◌∙◌, arith, lit<, mod-lt, eqb→eq, List, slice_index, zero-mul, one-mul, mul_comm, xor_mod, xor_shr, xor_lt, xor_zero_l, xor_zero_r, times, product, xor_below, remainder, cancel, IsAdditive, shift-additive, sum-additive, same_by_table, top_split, all_below, all_below-at, HasLanes, IsTable, high_of_sixteenfold, low_of_sixteenfold, nibble_sum, word_of_lane, word_at, scaled_byte}
use Rattle.std.specs.Int.{bit_at, to_be_bytes}
use Rattle.std.proofs.lemmas.Nat.Bits.{bit_at-lt}
use Rattle.wal_gf.proofs.Products.{times_comm, times_assoc, times-step, times-xor_left, times-xor_right, one-times, times-lt, zero-times, doubled}
use Rattle.wal_kernel.proofs.Sums.{scaled_byte-high, scaled_byte-low}
use Rattle.wal_kernel.proofs.LaneLemmas.{HasLanes-same}

doubled-lt : (w : ℕ) → doubled w < 65536
doubled-lt w = xor_lt 16 (w * 2 % 2 ^ 16) (bit_at w 15 * 0x100B) (mod-lt (w * 2) (lit< tt)) (omega (arith, bit_at-lt w 15))

-- x times a word is what the step of shift and add doubles
pub times-two : (w : ℕ) → w < 65536 → times w 2 ≡ doubled w
times-two w low =
    times_comm w 2 low (lit< tt) ∙ times-step 2 w (lit< tt) low
    ∙ ap₂ (λ (s t : ℕ). bit_xor s t) (zero-mul w) (one-times (doubled w) (doubled-lt w))
    ∙ xor_zero_l (doubled w)

pub doubled-word : (w : ℕ) → w < 65536 → bit_xor (w * 2 % 65536) (w / 32768 * 0x100B) ≡ times w 2
doubled-word w low =
    let top : w / 32768 % 2 ≡ w / 32768 = omega arith in
    sym (times-two w low ∙ ap (λ (s : ℕ). bit_xor (w * 2 % 65536) (s * 0x100B)) top)

powers_check : (times 16 16 ≡ 256) × (times 256 16 ≡ 4096)
unfolding times product xor_below remainder cancel
powers_check = (refl, refl)

pub times-256 : (c : ℕ) → times (times c 16) 16 ≡ times c 256
times-256 c = times_assoc c 16 16 (lit< tt) (lit< tt) ∙ ap (times c) powers_check.0

pub times-4096 : (c : ℕ) → times (times c 256) 16 ≡ times c 4096
times-4096 c = times_assoc c 256 16 (lit< tt) (lit< tt) ∙ ap (times c) powers_check.1

-- ---- the products of one element and the numbers below 16

-- what the lowest bit of k brings, and half of k times the doubled word
halved : (k w : ℕ) → k < 65536 → w < 65536 → times k w ≡ bit_xor (k % 2 * w) (times (k / 2) (times w 2))
halved k w small low = times-step k w small low ∙ ap (λ (x : ℕ). bit_xor (k % 2 * w) (times (k / 2) x)) (sym (times-two w low))

-- a product, by the bits of the second factor
times_by_bits : (c k : ℕ) → c < 65536 → k < 16
    → times c k ≡ bit_xor (k % 2 * c) (bit_xor (k / 2 % 2 * times c 2) (bit_xor (k / 4 % 2 * times (times c 2) 2) (k / 8 % 2 * times (times (times c 2) 2) 2)))
times_by_bits c k low small =
    let by_2 = times c 2 in
    let by_4 = times by_2 2 in
    let by_8 = times by_4 2 in
    let low_2 = times-lt c 2 (lit< tt) in
    let low_4 = times-lt by_2 2 (lit< tt) in
    let low_8 = times-lt by_4 2 (lit< tt) in
    let quarter : k / 2 / 2 ≡ k / 4 = omega arith in
    let eighth : k / 4 / 2 ≡ k / 8 = omega arith in
    let none : k / 8 / 2 ≡ 0 = omega arith in
    times_comm c k low (omega arith)
    ∙ rw (halved k c (omega arith) low, halved (k / 2) by_2 (omega arith) low_2, quarter)
    (rw (halved (k / 4) by_4 (omega arith) low_4, eighth, halved (k / 8) by_8 (omega arith) low_8, none)
    (rw (zero-times (times by_8 2), xor_zero_r (k / 8 % 2 * by_8))))

-- the bytes of a word, the most significant first
pub two_bytes : {word w : ℕ} {bytes : List ℕ} → word < 65536 → bytes ≡ to_be_bytes w16 word → word ≡ w
    → (slice_index bytes 0 ≡ w / 256) × (slice_index bytes 1 ≡ w % 256)
two_bytes {word} fits e same =
    let byte : word / 256 % 256 ≡ word / 256 = omega arith in
    rw (← same) (ap (λ bs. slice_index bs 0) e ∙ byte, ap (λ bs. slice_index bs 1) e)

-- ---- a word's product, from its nibbles'

-- a nibble at its place
place_check : T (all_below 3 (λ p. all_below 16 (λ n. eqb (times (16 * 16 ^ p) n) (n * (16 * 16 ^ p)))))
unfolding all_below times product xor_below remainder cancel
place_check = tt

at_place : (c p n : ℕ) → p < 3 → n < 16 → 16 * 16 ^ p < 65536 → times c (n * (16 * 16 ^ p)) ≡ times (times c (16 * 16 ^ p)) n
at_place c p n few small low =
    ap (times c) (sym (eqb→eq _ _ (all_below-at 16 (λ n. eqb (times (16 * 16 ^ p) n) (n * (16 * 16 ^ p)))
    (all_below-at 3 (λ p. all_below 16 (λ n. eqb (times (16 * 16 ^ p) n) (n * (16 * 16 ^ p)))) place_check p few) n small)))
    ∙ sym (times_assoc c (16 * 16 ^ p) n low (omega arith))

split_at : (c n w : ℕ) → times c w ≡ bit_xor (times c (w / 2 ^ n * 2 ^ n)) (times c (w % 2 ^ n))
split_at c n w = ap (times c) (top_split n w) ∙ times-xor_right c (w / 2 ^ n * 2 ^ n) (w % 2 ^ n)

pub nibble_products : (c high low : ℕ) → high < 256 → low < 256
    → times c (high * 256 + low) ≡ bit_xor (times (times c 4096) (high / 16)) (bit_xor (times (times c 256) (high % 16)) (bit_xor (times (times c 16) (low / 16)) (times c (low % 16))))
nibble_products c high low h l =
    let w = high * 256 + low in
    let n3 : w / 4096 ≡ high / 16 = omega arith in
    let n2 : w % 4096 / 256 ≡ high % 16 = omega arith in
    let n1 : w % 4096 % 256 / 16 ≡ low / 16 = omega arith in
    let n0 : w % 4096 % 256 % 16 ≡ low % 16 = omega arith in
    split_at c 12 w
    ∙ ap₂ (λ (s t : ℕ). bit_xor s t) (ap (λ (n : ℕ). times c (n * 4096)) n3 ∙ at_place c 2 (high / 16) (lit< tt) (omega arith) (lit< tt))
    (split_at c 8 (w % 4096)
    ∙ ap₂ (λ (s t : ℕ). bit_xor s t) (ap (λ (n : ℕ). times c (n * 256)) n2 ∙ at_place c 1 (high % 16) (lit< tt) (omega arith) (lit< tt))
    (split_at c 4 (w % 4096 % 256)
    ∙ ap₂ (λ (s t : ℕ). bit_xor s t) (ap (λ (n : ℕ). times c (n * 16)) n1 ∙ at_place c 0 (low / 16) (lit< tt) (omega arith) (lit< tt)) (ap (times c) n0)))

divided : (n : ℕ) → IsAdditive (λ a. a / 2 ^ n)
divided n a b = xor_shr a b n

reduced : (n : ℕ) → IsAdditive (λ a. a % 2 ^ n)
reduced n a b = xor_mod a b n

-- the first byte of a word, and the second, keep sums
pub first_of : IsAdditive (λ w. w / 256)
first_of = divided 8

-- the low byte of a sum is the sum of the low bytes
pub second_of : IsAdditive (λ w. w % 256)
second_of = reduced 8

xor₄ : {a b c d a' b' c' d' : ℕ} → a ≡ a' → b ≡ b' → c ≡ c' → d ≡ d' → bit_xor a (bit_xor b (bit_xor c d)) ≡ bit_xor a' (bit_xor b' (bit_xor c' d'))
xor₄ p q r s = ap₂ (λ (x y : ℕ). bit_xor x y) p (ap₂ (λ (x y : ℕ). bit_xor x y) q (ap₂ (λ (x y : ℕ). bit_xor x y) r s))

-- ---- the bytes of a table

scale-part : (f : ℕ → ℕ) → f 0 ≡ 0 → (d word byte : ℕ) → d < 2 → byte ≡ f word → d * byte ≡ f (d * word)
scale-part f none (suc (suc d)) word byte small e = absurd (omega arith)
scale-part f none _ word byte small e = simp (zero-mul, one-mul) (cc (none, e))

-- a product with the number of a lane in its half of a vector
times_by_lane : (c k : ℕ) → c < 65536
    → times c (k % 16) ≡ bit_xor (k % 2 * c) (bit_xor (k / 2 % 2 * times c 2) (bit_xor (k / 4 % 2 * times (times c 2) 2) (k / 8 % 2 * times (times (times c 2) 2) 2)))
times_by_lane c k low =
    let bit_1 : k % 16 % 2 ≡ k % 2 = omega arith in
    let bit_2 : k % 16 / 2 % 2 ≡ k / 2 % 2 = omega arith in
    let bit_4 : k % 16 / 4 % 2 ≡ k / 4 % 2 = omega arith in
    let bit_8 : k % 16 / 8 % 2 ≡ k / 8 % 2 = omega arith in
    times_by_bits c (k % 16) low (omega arith)
    ∙ xor₄ (ap (λ (d : ℕ). d * c) bit_1) (ap (λ (d : ℕ). d * times c 2) bit_2) (ap (λ (d : ℕ). d * times (times c 2) 2) bit_4) (ap (λ (d : ℕ). d * times (times (times c 2) 2) 2) bit_8)

-- a sum of four, in a function that keeps sums
sum₄ : (f : ℕ → ℕ) → IsAdditive f → (a b c d : ℕ) → f (bit_xor a (bit_xor b (bit_xor c d))) ≡ bit_xor (f a) (bit_xor (f b) (bit_xor (f c) (f d)))
sum₄ f keeps a b c d =
    keeps a (bit_xor b (bit_xor c d)) ∙ ap (bit_xor (f a)) (keeps b (bit_xor c d) ∙ ap (bit_xor (f b)) (keeps c d))

-- the multiples of an additive function from those of the powers of two
pub multiples : (f : ℕ → ℕ) → f 0 ≡ 0 → IsAdditive f → (c at_1 at_2 at_4 at_8 : ℕ) (v : List ℕ) → c < 65536
    → HasLanes 32 v (λ k. bit_xor (k % 2 * at_1) (bit_xor (k / 2 % 2 * at_2) (bit_xor (k / 4 % 2 * at_4) (k / 8 % 2 * at_8))))
    → at_1 ≡ f c → at_2 ≡ f (times c 2) → at_4 ≡ f (times (times c 2) 2) → at_8 ≡ f (times (times (times c 2) 2) 2)
    → IsTable (λ k. f (times c k)) v
multiples f none keeps c at_1 at_2 at_4 at_8 v low h e_1 e_2 e_4 e_8 = HasLanes-same 32 v _ _ h (λ k l.
    let part = scale-part f none in
    xor₄ (part (k % 2) c at_1 (omega arith) e_1) (part (k / 2 % 2) (times c 2) at_2 (omega arith) e_2)
    (part (k / 4 % 2) (times (times c 2) 2) at_4 (omega arith) e_4)
    (part (k / 8 % 2) (times (times (times c 2) 2) 2) at_8 (omega arith) e_8)
    ∙ sym (ap f (times_by_lane c k low)
    ∙ sum₄ f keeps (k % 2 * c) (k / 2 % 2 * times c 2) (k / 4 % 2 * times (times c 2) 2) (k / 8 % 2 * times (times (times c 2) 2) 2)))

-- ---- the bytes of x^4 times a word

composed : (f g : ℕ → ℕ) → IsAdditive f → IsAdditive g → IsAdditive (λ a. f (g a))
composed f g keeps keeps' a b = ap f (keeps' a b) ∙ keeps (g a) (g b)

multiplied : (n : ℕ) → IsAdditive (λ a. a * 2 ^ n)
multiplied n a b = mul_comm (bit_xor a b) (2 ^ n) ∙ shift-additive n a b ∙ ap₂ (λ (s t : ℕ). bit_xor s t) (mul_comm (2 ^ n) a) (mul_comm (2 ^ n) b)

high_part : ℕ → ℕ
high_part w = high_of_sixteenfold (w / 256) (w % 256)

low_part : ℕ → ℕ
low_part w = low_of_sixteenfold (w / 256) (w % 256)

-- four bits of the word go to the left in a byte
moved : (n : ℕ) (f : ℕ → ℕ) → IsAdditive f → IsAdditive (λ w. f w * 2 ^ n % 256)
moved n f keeps = composed (λ a. a % 256) (λ w. f w * 2 ^ n) (reduced 8) (composed (λ a. a * 2 ^ n) f (multiplied n) keeps)

top-additive : IsAdditive (λ w. w / 256 / 16)
top-additive = composed (λ a. a / 16) (λ w. w / 256) (divided 4) (divided 8)

high_part-additive : IsAdditive high_part
unfolding high_part
high_part-additive =
    sum-additive (λ w. w / 256 * 2 ^ 4 % 256) (λ w. bit_xor (w % 256 / 16) (w / 256 / 16 * 2 ^ 4 % 256)) (moved 4 (λ w. w / 256) (divided 8))
    (sum-additive (λ w. w % 256 / 16) (λ w. w / 256 / 16 * 2 ^ 4 % 256) (composed (λ a. a / 16) (λ w. w % 256) (divided 4) (reduced 8)) (moved 4 (λ w. w / 256 / 16) top-additive))

low_part-additive : IsAdditive low_part
unfolding low_part
low_part-additive =
    sum-additive (λ w. w % 256 * 2 ^ 4 % 256) (λ w. bit_xor (w / 256 / 16 * 2 ^ 3 % 256) (bit_xor (w / 256 / 16 * 2 ^ 1 % 256) (w / 256 / 16))) (moved 4 (λ w. w % 256) (reduced 8))
    (sum-additive (λ w. w / 256 / 16 * 2 ^ 3 % 256) (λ w. bit_xor (w / 256 / 16 * 2 ^ 1 % 256) (w / 256 / 16)) (moved 3 (λ w. w / 256 / 16) top-additive)
    (sum-additive (λ w. w / 256 / 16 * 2 ^ 1 % 256) (λ w. w / 256 / 16) (moved 1 (λ w. w / 256 / 16) top-additive) top-additive))

pub high_of_product : (w : ℕ) → w < 65536 → high_of_sixteenfold (w / 256) (w % 256) ≡ times w 16 / 256
unfolding all_below times product xor_below remainder cancel high_part
high_of_product =
    same_by_table 16 high_part (λ a. times a 16 / 256) high_part-additive (composed (λ a. a / 256) (λ a. times a 16) (divided 8) (times-xor_left 16)) tt

pub low_of_product : (w : ℕ) → w < 65536 → low_of_sixteenfold (w / 256) (w % 256) ≡ times w 16 % 256
unfolding all_below times product xor_below remainder cancel low_part
low_of_product =
    same_by_table 16 low_part (λ a. times a 16 % 256) low_part-additive (composed (λ a. a % 256) (λ a. times a 16) (reduced 8) (times-xor_left 16)) tt

turned : (c k : ℕ) → k < 16 → times (times c k) 16 ≡ times (times c 16) k
turned c k l = times_assoc c k 16 (omega arith) (lit< tt) ∙ ap (times c) (times_comm k 16 (omega arith) (lit< tt)) ∙ sym (times_assoc c 16 k (lit< tt) (omega arith))

-- the tables of x^4 times c, from those of c
pub table_of : (made : ℕ → ℕ → ℕ) (f : ℕ → ℕ) → ((w : ℕ) → w < 65536 → made (w / 256) (w % 256) ≡ f (times w 16)) → (c : ℕ) (high low v : List ℕ)
    → IsTable (λ i. times c i / 256) high → IsTable (λ i. times c i % 256) low
    → HasLanes 32 v (λ k. made (slice_index high k) (slice_index low k)) → IsTable (λ i. f (times (times c 16) i)) v
table_of made f product c high low v highs lows h = HasLanes-same 32 v _ _ h (λ k l.
    ap₂ made (highs.each k l) (lows.each k l) ∙ product (times c (k % 16)) (times-lt c (k % 16) (omega arith)) ∙ ap f (turned c (k % 16) (omega arith)))

-- ---- what the products of a word's nibbles make

-- a byte of the products of c and the numbers with one nibble
abbrev pub nibble : (ℕ → ℕ) → ℕ → ℕ → ℕ
nibble f c i = f (times c i)

byte_of : (f : ℕ → ℕ) → IsAdditive f → (c high low : ℕ) → high < 256 → low < 256
    → nibble_sum (nibble f (times c 4096)) (nibble f (times c 256)) (nibble f (times c 16)) (nibble f c) high low ≡ f (times c (high * 256 + low))
byte_of f keeps c high low small small' =
    sym (ap f (nibble_products c high low small small')
    ∙ sum₄ f keeps (times (times c 4096) (high / 16)) (times (times c 256) (high % 16)) (times (times c 16) (low / 16)) (times c (low % 16)))

module _ (c block : ℕ) (source high low v : List ℕ) (bytes : (k : ℕ) → slice_index source k < 256)
    (highs : HasLanes 32 high (λ k. slice_index source (64 * block + 2 * word_of_lane k))) (lows : HasLanes 32 low (λ k. slice_index source (64 * block + 2 * word_of_lane k + 1))) where
  word_here : (k : ℕ) → k < 32 → slice_index high k * 256 + slice_index low k ≡ word_at source (32 * block + word_of_lane k)
  word_here k l =
      ap₂ (λ (s t : ℕ). s * 256 + t)
      (highs.each k l ∙ ap (λ j. slice_index source j) (omega arith))
      (lows.each k l ∙ ap (λ j. slice_index source j) (omega arith))

  byte_high : (k : ℕ) → k < 32 → slice_index high k < 256
  byte_high k l = omega (arith, highs.each k l, bytes (64 * block + 2 * word_of_lane k))

  byte_low : (k : ℕ) → k < 32 → slice_index low k < 256
  byte_low k l = omega (arith, lows.each k l, bytes (64 * block + 2 * word_of_lane k + 1))

  -- lanes of the sums for the high bytes hold the first byte of each scaled word of the block
  pub block_high : HasLanes 32 v (λ k. nibble_sum (nibble (λ w. w / 256) (times c 4096)) (nibble (λ w. w / 256) (times c 256)) (nibble (λ w. w / 256) (times c 16)) (nibble (λ w. w / 256) c) (slice_index high k) (slice_index low k))
      → HasLanes 32 v (λ k. scaled_byte c source (64 * block + 2 * word_of_lane k))
  block_high h = HasLanes-same 32 v _ _ h (λ k l.
      let place : 2 * (32 * block + word_of_lane k) ≡ 64 * block + 2 * word_of_lane k = omega arith in
      byte_of (λ w. w / 256) first_of c (slice_index high k) (slice_index low k) (byte_high k l) (byte_low k l)
      ∙ ap (λ (w : ℕ). times c w / 256) (word_here k l) ∙ sym (scaled_byte-high c source (32 * block + word_of_lane k)) ∙ ap (λ j. scaled_byte c source j) place)

  -- lanes of the sums for the low bytes hold the second byte of each scaled word of the block
  pub block_low : HasLanes 32 v (λ k. nibble_sum (nibble (λ w. w % 256) (times c 4096)) (nibble (λ w. w % 256) (times c 256)) (nibble (λ w. w % 256) (times c 16)) (nibble (λ w. w % 256) c) (slice_index high k) (slice_index low k))
      → HasLanes 32 v (λ k. scaled_byte c source (64 * block + 2 * word_of_lane k + 1))
  block_low h = HasLanes-same 32 v _ _ h (λ k l.
      let place : 2 * (32 * block + word_of_lane k) + 1 ≡ 64 * block + 2 * word_of_lane k + 1 = omega arith in
      byte_of (λ w. w % 256) second_of c (slice_index high k) (slice_index low k) (byte_high k l) (byte_low k l)
      ∙ ap (λ (w : ℕ). times c w % 256) (word_here k l) ∙ sym (scaled_byte-low c source (32 * block + word_of_lane k)) ∙ ap (λ j. scaled_byte c source j) place)
