-- Sums of regions, from sums of their bytes.
use Rattle.wal_kernel.proofs.Common.{◌≡◌, ◌==◌, if◌then◌else◌, ℕ, ◌+◌, ◌*◌, ◌/◌, ◌%◌, ◌<◌, ◌≤◌, List, length, slice_index, sym, ◌∙◌, ap, ap₂, refl, arith, bit_xor, subst, xor_block, times, word_at, IsScaledSum, IsSum, IsSumBelow, scaled_byte}

-- the sum of two words, by their bytes
pub word_xor : (a b x y : ℕ) → b < 256 → y < 256 → bit_xor a x * 256 + bit_xor b y ≡ bit_xor (a * 256 + b) (x * 256 + y)
word_xor a b x y p q = sym (xor_block 8 a x b y p q)

pub scaled_byte-high : (c : ℕ) (source : List ℕ) (i : ℕ) → scaled_byte c source (2 * i) ≡ times c (word_at source i) / 256
scaled_byte-high c source i =
    let half : 2 * i / 2 ≡ i = omega arith in
    let even : 2 * i % 2 ≡ 0 = omega arith in
    rw (even, half) refl

pub scaled_byte-low : (c : ℕ) (source : List ℕ) (i : ℕ) → scaled_byte c source (2 * i + 1) ≡ times c (word_at source i) % 256
scaled_byte-low c source i =
    let half : (2 * i + 1) / 2 ≡ i = omega arith in
    let odd : (2 * i + 1) % 2 ≡ 1 = omega arith in
    rw (odd, half) refl

pub scaled_sum : (c : ℕ) (old source new : List ℕ) (end : ℕ) → length old ≤ end → IsSumBelow (scaled_byte c source) old end new → IsScaledSum c old source new
scaled_sum c old source new end whole h = record {
  same_length = h.long;
  words = λ i l.
      ap₂ (λ a b. a * 256 + b)
      (h.below (2 * i) (omega arith) ∙ ap (bit_xor (slice_index old (2 * i))) (scaled_byte-high c source i))
      (h.below (2 * i + 1) (omega arith) ∙ ap (bit_xor (slice_index old (2 * i + 1))) (scaled_byte-low c source i))
      ∙ word_xor (slice_index old (2 * i)) (slice_index old (2 * i + 1)) (times c (word_at source i) / 256) (times c (word_at source i) % 256) (h.bytes (2 * i + 1)) (omega arith)
      ∙ ap (bit_xor (word_at old i)) (omega arith);
}

pub region_sum : (old source new : List ℕ) → ((k : ℕ) → slice_index source k < 256) → (end : ℕ) → length old ≤ end → IsSumBelow (λ k. slice_index source k) old end new → IsSum old source new
region_sum old source new source_below end whole h = record {
  same_length = h.long;
  bytes = λ k l. h.below k (omega arith);
  words = λ i l.
      ap₂ (λ a b. a * 256 + b) (h.below (2 * i) (omega arith)) (h.below (2 * i + 1) (omega arith))
      ∙ word_xor (slice_index old (2 * i)) (slice_index old (2 * i + 1)) (slice_index source (2 * i)) (slice_index source (2 * i + 1)) (h.bytes (2 * i + 1)) (source_below (2 * i + 1));
}

-- nothing was added yet
pub none_added : (f : ℕ → ℕ) (old : List ℕ) → ((k : ℕ) → slice_index old k < 256) → IsSumBelow f old 0 old
none_added f old bytes = record { bytes = bytes; long = refl; below = λ k l. absurd (omega arith); above = λ k l. refl }

-- the word i, which is c times that of source, was added where all words before were
pub scaled_step : (c : ℕ) (old source before after : List ℕ) (i word : ℕ) → word ≡ times c (word_at source i)
    → ((f : ℕ → ℕ) (old : List ℕ) → f (2 * i) ≡ word / 256 → f (2 * i + 1) ≡ word % 256 → IsSumBelow f old (2 * i) before → IsSumBelow f old (2 * i + 2) after)
    → IsSumBelow (scaled_byte c source) old (2 * i) before → IsSumBelow (scaled_byte c source) old (2 * (i + 1)) after
scaled_step c old source before after i word is added h =
    let next : 2 * i + 2 ≡ 2 * (i + 1) = omega arith in
    subst (λ end. IsSumBelow (scaled_byte c source) old end after) next
    (added (scaled_byte c source) old (scaled_byte-high c source i ∙ ap (λ w. w / 256) (sym is)) (scaled_byte-low c source i ∙ ap (λ w. w % 256) (sym is)) h)

-- the bytes of the products of a part of the source
pub scaled_byte-part : (c block : ℕ) (source part : List ℕ) → ((k : ℕ) → slice_index part k ≡ slice_index source (64 * block + k)) → (k : ℕ) → scaled_byte c part k ≡ scaled_byte c source (64 * block + k)
scaled_byte-part c block source part same k =
    let parity : (64 * block + k) % 2 ≡ k % 2 = omega arith in
    let half : (64 * block + k) / 2 ≡ 32 * block + k / 2 = omega arith in
    let word : word_at part (k / 2) ≡ word_at source (32 * block + k / 2) =
    ap₂ (λ (s t : ℕ). s * 256 + t)
    (same (2 * (k / 2)) ∙ ap (λ j. slice_index source j) (omega arith))
    (same (2 * (k / 2) + 1) ∙ ap (λ j. slice_index source j) (omega arith)) in
    rw (parity, half) (ap (λ (w : ℕ). if k % 2 == 0 then times c w / 256 else times c w % 256) word)
