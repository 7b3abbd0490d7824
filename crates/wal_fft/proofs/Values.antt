-- The laws of values: they are words, they keep sums and multiples, and how those of a block come from those of its halves.
use Rattle.wal_fft.proofs.Common.{◌≡◌, ℕ, zero, suc, ◌+◌, ◌*◌, ◌^◌, ◌<◌, bit_xor, refl, sym, ap, ap₂, ◌∙◌, arith, lit<, pow-suc, xor_assoc, xor_self, xor_comm, xor_lt, times, xor_middle, times-xor_left, times-xor_right, times-lt, times-zero, one-times, times_left_comm, skew, value}
use Rattle.wal_fft.proofs.SkewLaws.{skew-lt, skew-low, skew-high}

-- all values of a function are words
abbrev pub AreWords : (ℕ → ℕ) → Type 0
AreWords c = (i : ℕ) → c i < 65536

pub value-zero : (c : ℕ → ℕ) (x : ℕ) → value 0 c x ≡ c 0
unfolding value
value-zero c x = refl

pub value-suc : (j : ℕ) (c : ℕ → ℕ) (x : ℕ) → value (suc j) c x ≡ bit_xor (value j c x) (times (skew j x) (value j (λ i. c (2 ^ j + i)) x))
unfolding value
value-suc j c x = refl

pub value-lt : (j : ℕ) (c : ℕ → ℕ) (x : ℕ) → AreWords c → value j c x < 65536
unfolding value
value-lt zero c x low = low 0
value-lt (suc j) c x low =
    let higher : value j (λ i. c (2 ^ j + i)) x < 65536 = value-lt j (λ i. c (2 ^ j + i)) x (λ i. low (2 ^ j + i)) in
    xor_lt 16 (value j c x) (times (skew j x) (value j (λ i. c (2 ^ j + i)) x)) (value-lt j c x low)
    (times-lt (skew j x) (value j (λ i. c (2 ^ j + i)) x) higher)

-- values come from the coefficients alone
pub value-same : (j : ℕ) (c d : ℕ → ℕ) (x : ℕ) → ((i : ℕ) → i < 2 ^ j → c i ≡ d i) → value j c x ≡ value j d x
unfolding value
value-same zero c d x same = same 0 (lit< tt)
value-same (suc j) c d x same =
    rw (value-same j c d x (λ i below. same i (omega (arith, pow-suc 2 j))))
    (rw (value-same j (λ i. c (2 ^ j + i)) (λ i. d (2 ^ j + i)) x
    (λ i below. same (2 ^ j + i) (omega (arith, pow-suc 2 j)))))

-- coefficients that are all 0 have the value 0
pub value-none : (j : ℕ) (c : ℕ → ℕ) (x : ℕ) → ((i : ℕ) → i < 2 ^ j → c i ≡ 0) → value j c x ≡ 0
unfolding value
value-none zero c x none = none 0 (lit< tt)
value-none (suc j) c x none =
    rw (value-none j c x (λ i below. none i (omega (arith, pow-suc 2 j))))
    (rw (value-none j (λ i. c (2 ^ j + i)) x (λ i below. none (2 ^ j + i) (omega (arith, pow-suc 2 j))))
    (rw (times-zero (skew j x)) (xor_self 0)))

pub value-line : (j : ℕ) (c d : ℕ → ℕ) (s x : ℕ) → s < 65536 → AreWords d
    → value j (λ i. bit_xor (c i) (times s (d i))) x ≡ bit_xor (value j c x) (times s (value j d x))
unfolding value
value-line zero c d s x low words = refl
value-line (suc j) c d s x low words =
    let t = skew j x in
    let A = value j c x in
    let B = value j d x in
    let C = value j (λ i. c (2 ^ j + i)) x in
    let D = value j (λ i. d (2 ^ j + i)) x in
    let word : value j (λ i. d (2 ^ j + i)) x < 65536 = value-lt j (λ i. d (2 ^ j + i)) x (λ i. words (2 ^ j + i)) in
    ap₂ (λ (p q : ℕ). bit_xor p (times t q)) (value-line j c d s x low words)
    (value-line j (λ i. c (2 ^ j + i)) (λ i. d (2 ^ j + i)) s x low (λ i. words (2 ^ j + i)))
    ∙ ap (bit_xor (bit_xor A (times s B))) (times-xor_right t C (times s D) ∙ ap (bit_xor (times t C)) (times_left_comm t s D (skew-lt j x) low word))
    ∙ xor_middle A (times s B) (times t C) (times s (times t D))
    ∙ ap (bit_xor (bit_xor A (times t C))) (sym (times-xor_right s B (times t D)))

-- ---- a block from its halves

-- the values at the lower half are those of c i + skew * c (2^j + i)
pub at_low : (j q u : ℕ) (c a : ℕ → ℕ) → j < 10 → u < 2 ^ j → AreWords c
    → ((i : ℕ) → i < 2 ^ j → a i ≡ bit_xor (c i) (times (skew j (q * 2 ^ suc j)) (c (2 ^ j + i))))
    → value j a (q * 2 ^ suc j + u) ≡ value (suc j) c (q * 2 ^ suc j + u)
at_low j q u c a few below words same =
    let s = skew j (q * 2 ^ suc j) in
    let x = q * 2 ^ suc j + u in
    value-same j a (λ i. bit_xor (c i) (times s (c (2 ^ j + i)))) x same
    ∙ value-line j c (λ i. c (2 ^ j + i)) s x (skew-lt j (q * 2 ^ suc j)) (λ i. words (2 ^ j + i))
    ∙ ap (λ (t : ℕ). bit_xor (value j c x) (times t (value j (λ i. c (2 ^ j + i)) x))) (sym (skew-low j q u few below))
    ∙ sym (value-suc j c x)

regrouped : (h c s : ℕ) → h < 65536 → bit_xor h (bit_xor c (times s h)) ≡ bit_xor c (times (bit_xor s 1) h)
regrouped h c s low =
    xor_comm h (bit_xor c (times s h)) ∙ xor_assoc c (times s h) h
    ∙ ap (bit_xor c) (ap (bit_xor (times s h)) (sym (one-times h low)) ∙ sym (times-xor_left h s 1))

-- the values at the upper half are those of the sum of that and c (2^j + i)
pub at_high : (j q u : ℕ) (c b : ℕ → ℕ) → j < 10 → u < 2 ^ j → AreWords c
    → ((i : ℕ) → i < 2 ^ j → b i ≡ bit_xor (c (2 ^ j + i)) (bit_xor (c i) (times (skew j (q * 2 ^ suc j)) (c (2 ^ j + i)))))
    → value j b (q * 2 ^ suc j + (2 ^ j + u)) ≡ value (suc j) c (q * 2 ^ suc j + (2 ^ j + u))
at_high j q u c b few below words same =
    let s = skew j (q * 2 ^ suc j) in
    let x = q * 2 ^ suc j + (2 ^ j + u) in
    value-same j b (λ i. bit_xor (c i) (times (bit_xor s 1) (c (2 ^ j + i)))) x
    (λ i within. same i within ∙ regrouped (c (2 ^ j + i)) (c i) s (words (2 ^ j + i)))
    ∙ value-line j c (λ i. c (2 ^ j + i)) (bit_xor s 1) x (xor_lt 16 s 1 (skew-lt j (q * 2 ^ suc j)) (lit< tt)) (λ i. words (2 ^ j + i))
    ∙ ap (λ (t : ℕ). bit_xor (value j c x) (times t (value j (λ i. c (2 ^ j + i)) x))) (sym (skew-high j q u few below))
    ∙ sym (value-suc j c x)
