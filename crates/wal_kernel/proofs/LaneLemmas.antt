-- What the operations on vectors of bytes hold at each lane.
use Rattle.wal_kernel.proofs.Common.{zero, suc, zero-mul, one-mul, mod-eq_of_lt, take, drop, length-drop, length-append, ◌≡◌, ℕ, ◌+◌, ◌-◌, ◌*◌, ◌/◌, ◌%◌, ◌^◌, ◌<◌, ◌≤◌, inl, inr, List, ◌++◌, length, get_or, map, replicate, refl, sym, ap, ap₂, ◌∙◌, arith, w8, bit_and, bit_xor, Fits, slice_index, eqb, eqb→eq, and_zero_r, get_or-drop, get_or-take, length-take-le, get_or_append_left, get_or-append_right, and_mask, all_below, all_below-at, HasLanes, IsTable, word_of_lane, IsSumBelow}
use Rattle.std.specs.Simd.Lanes.{zip2, chunk, put_chunk, Each1}
use Rattle.std.specs.List.{range_with_len}
use Rattle.std.proofs.lemmas.Bool.{cases_lt}
use Rattle.wal_kernel.proofs.Words.{zero_byte}
use Rattle.std.proofs.lemmas.Simd.{length-zip2, get_or-zip2, get_or-replicate, length-chunk, get_or-chunk, length-put_chunk, get_or-put_chunk_below, get_or-put_chunk_at, get_or-put_chunk_above, swz_l, SwzOk, SwzOk-from_below, get_or-swz_l_below, length-swz_l, Each1-from_get_or, Each1-get_or}
use Rattle.std.proofs.Math.ListN.{get_or-eq_default}
use Rattle.std.proofs.lemmas.List.FromFn.{get_or-map-range_with_len, length-map-range_with_len}

pub HasLanes-same : (n : ℕ) (v : List ℕ) (f g : ℕ → ℕ) → HasLanes n v f → ((k : ℕ) → k < n → f k ≡ g k) → HasLanes n v g
HasLanes-same n v f g h same = record { long = h.long; each = λ k l. h.each k l ∙ same k l }

-- a vector that is written out lane by lane
pub HasLanes-listed : (n : ℕ) (f : ℕ → ℕ) → HasLanes n (map f (range_with_len 0 n)) f
HasLanes-listed n f = record { long = length-map-range_with_len f 0 n; each = λ k l. get_or-map-range_with_len f 0 n k k 0 l (omega arith) }

-- a load
pub HasLanes-chunk : (n i : ℕ) (xs : List ℕ) → i + n ≤ length xs → HasLanes n (chunk i n xs) (λ k. slice_index xs (i + k))
HasLanes-chunk n i xs room = record { long = length-chunk i n xs room; each = λ k l. get_or-chunk i n xs k 0 l }

-- an operator on two vectors
pub HasLanes-zip2 : (n : ℕ) (f : ℕ → ℕ → ℕ) (a b : List ℕ) → length a ≡ n → length b ≡ n → HasLanes n (zip2 f a b) (λ k. f (get_or a k 0) (get_or b k 0))
HasLanes-zip2 n f a b p q = record {
  long = length-zip2 f a b (p ∙ sym q) ∙ p;
  each = λ k l. get_or-zip2 f a b k 0 0 0 (omega arith) (omega arith);
}

-- an operator on a vector and a splat
pub HasLanes-splat : (f : ℕ → ℕ → ℕ) (a : List ℕ) (x : ℕ) → length a ≡ 32 → HasLanes 32 (zip2 f a (replicate 32 x)) (λ k. f (get_or a k 0) x)
HasLanes-splat f a x p =
    HasLanes-same 32 _ _ _ (HasLanes-zip2 32 f a (replicate 32 x) p refl) (λ k l. ap (f (get_or a k 0)) (get_or-replicate 32 k x 0 l))

-- the sums of two vectors
pub HasLanes-sum : {v a b : List ℕ} {f g : ℕ → ℕ} → HasLanes 32 v (λ k. bit_xor (slice_index a k) (slice_index b k)) → HasLanes 32 a f → HasLanes 32 b g
    → HasLanes 32 v (λ k. bit_xor (f k) (g k))
HasLanes-sum h a_holds b_holds = HasLanes-same 32 _ _ _ h (λ k l. ap₂ (λ (s t : ℕ). bit_xor s t) (a_holds.each k l) (b_holds.each k l))

-- a splat where a bit of the lane's number is set
masked : (d x : ℕ) → d < 2 → x < 256 → bit_and x (d * 255) ≡ d * x
masked zero x small byte = and_zero_r x ∙ sym (zero-mul x)
masked (suc zero) x small byte = and_mask x 8 ∙ mod-eq_of_lt byte ∙ sym (one-mul x)
masked (suc (suc d)) x small byte = absurd (omega arith)

pub HasLanes-masked : (x : ℕ) (bit : ℕ → ℕ) → x < 256 → ((k : ℕ) → bit k < 2) → HasLanes 32 (zip2 bit_and (replicate 32 x) (map (λ k. bit k * 255) (range_with_len 0 32))) (λ k. bit k * x)
HasLanes-masked x bit byte small =
    let mask = HasLanes-listed 32 (λ k. bit k * 255) in
    HasLanes-same 32 _ _ _ (HasLanes-zip2 32 bit_and (replicate 32 x) (map (λ k. bit k * 255) (range_with_len 0 32)) refl mask.long)
    (λ k l. ap₂ (λ (s t : ℕ). bit_and s t) (get_or-replicate 32 k x 0 l) (mask.each k l) ∙ masked (bit k) x (small k) byte)

-- the nibbles of a vector
pub low_nibbles : (v : List ℕ) → length v ≡ 32 → HasLanes 32 (zip2 bit_and v (replicate 32 15)) (λ k. get_or v k 0 % 16)
low_nibbles v long = HasLanes-same 32 _ _ _ (HasLanes-splat bit_and v 15 long) (λ k l. and_mask (get_or v k 0) 4)

pub high_nibbles : (v : List ℕ) → length v ≡ 32 → HasLanes 32 (zip2 (λ a b. a / 2 ^ b) v (replicate 32 4)) (λ k. get_or v k 0 / 16)
high_nibbles v long = HasLanes-splat (λ a b. a / 2 ^ b) v 4 long

pub high_nibble_small : (v : List ℕ) → length v ≡ 32 → Each1 (Fits w8) v → (k : ℕ) → k < 32 → get_or v k 0 / 16 < 16
high_nibble_small v long fits k l = omega (arith, (Each1-get_or (Fits w8) v k 0 (omega arith) fits).fits)

module _ (js : List ℕ) (f : ℕ → ℕ) (h : HasLanes 32 js f) (small : (k : ℕ) → k < 32 → f k < 16) where
  -- positions below 16 may be looked up, each in its half of the table
  pub SwzOk-nibbles : SwzOk w8 16 32 0 js
  SwzOk-nibbles =
      let long = h.long in
      SwzOk-from_below w8 16 2 32 0 js refl (omega arith) (Each1-from_get_or (λ j. j < 16) js 0 (λ i l. omega (arith, h.each i (omega arith), small i (omega arith))))

  -- what the look-up gives
  pub HasLanes-look_up : (g : ℕ → ℕ) (table : List ℕ) → IsTable g table → HasLanes 32 (swz_l w8 16 table 0 js) (λ k. g (f k))
  HasLanes-look_up g table holds =
      let long = h.long in
      record {
        long = length-swz_l w8 16 table 0 js ∙ long;
        each = λ k l.
            let e = h.each k l in
            let s = small k l in
            let entry : (16 * ((0 + k) / 16) + get_or js k 0) % 16 ≡ f k = omega arith in
            get_or-swz_l_below w8 16 table 0 js k (omega arith) (omega arith) ∙ holds.each (16 * ((0 + k) / 16) + get_or js k 0) (omega arith) ∙ ap g entry;
      }

-- a store of the sum of a vector and what stood there
pub stored : (f : ℕ → ℕ) (old now v : List ℕ) (at : ℕ) → at + 32 ≤ length now → HasLanes 32 v (λ k. bit_xor (slice_index now (at + k)) (f (at + k)))
    → IsSumBelow f old at now → IsSumBelow f old (at + 32) (put_chunk at now v)
stored f old now v at room h sum = record {
  bytes = sum.bytes;
  long = length-put_chunk at now v ∙ sum.long;
  below = λ k l. elim (cases_lt k at) [
    | inl before ↦ get_or-put_chunk_below at now v k 0 before ∙ sum.below k before
    | inr after ↦
        let j = k - at in
        let e : k ≡ at + (k - at) = omega arith in
        rw e (get_or-put_chunk_at at now v j 0 (omega (arith, h.long)) (omega (arith, h.long)) ∙ h.each j (omega arith) ∙ ap (λ b. bit_xor b (f (at + j))) (sum.above (at + j) (omega arith)))
  ];
  above = λ k l. get_or-put_chunk_above at now v k 0 (omega (arith, h.long)) ∙ sum.above k (omega arith);
}

-- two neighbouring loads
pub joined : (n at : ℕ) (xs a b : List ℕ) → HasLanes n a (λ k. slice_index xs (at + k)) → HasLanes n b (λ k. slice_index xs (at + n + k)) → (j : ℕ) → j < n + n → slice_index (a ++ b) j ≡ slice_index xs (at + j)
joined n at xs a b h h' j l = elim (cases_lt j n) [
  | inl before ↦ get_or_append_left a b 0 j (omega (arith, h.long)) ∙ h.each j before
  | inr after ↦ get_or-append_right a b n j 0 h.long after ∙ h'.each (j - n) (omega arith) ∙ ap (λ k. slice_index xs k) (omega arith)
]

-- the run of a word's lane, and the run of that lane's word
there_and_back : (w : ℕ) → w < 32 → word_of_lane (word_of_lane w) ≡ w
unfolding all_below
there_and_back w l = eqb→eq _ _ (all_below-at 32 (λ w. eqb (word_of_lane (word_of_lane w)) w) tt w l)

-- every second byte of two loads, from the first or the second byte on
pub HasLanes-alternate : (odd : ℕ) (xs a b : List ℕ) (at : ℕ) → odd < 2 → HasLanes 32 a (λ k. slice_index xs (at + k)) → HasLanes 32 b (λ k. slice_index xs (at + 32 + k))
    → HasLanes 32 (map (λ k. slice_index (a ++ b) (2 * word_of_lane k + odd)) (range_with_len 0 32)) (λ k. slice_index xs (at + 2 * word_of_lane k + odd))
HasLanes-alternate odd xs a b at small h h' =
    HasLanes-same 32 _ _ _ (HasLanes-listed 32 (λ k. slice_index (a ++ b) (2 * word_of_lane k + odd)))
    (λ k l. joined 32 at xs a b h h' (2 * word_of_lane k + odd) (omega arith) ∙ ap (λ j. slice_index xs j) (omega arith))

-- the bytes of words by turns, from word `from` on
pub HasLanes-by_turns : (f : ℕ → ℕ) (at from to : ℕ) (high low : List ℕ) → from ≤ 16 → at + 2 * from ≡ to
    → HasLanes 32 high (λ k. f (at + 2 * word_of_lane k)) → HasLanes 32 low (λ k. f (at + 2 * word_of_lane k + 1))
    → HasLanes 32 (map (λ k. slice_index (high ++ low) (word_of_lane (from + k / 2) + 32 * (k % 2))) (range_with_len 0 32)) (λ k. f (to + k))
HasLanes-by_turns f at from to high low small start h h' =
    HasLanes-same 32 _ _ _ (HasLanes-listed 32 (λ k. slice_index (high ++ low) (word_of_lane (from + k / 2) + 32 * (k % 2)))) (λ k l.
    let word = from + k / 2 in
    elim (cases_lt (k % 2) 1) [
      | inl even ↦
          ap (λ j. slice_index (high ++ low) j) (omega arith) ∙ get_or_append_left high low 0 (word_of_lane word) (omega (arith, h.long))
          ∙ h.each (word_of_lane word) (omega arith) ∙ ap (λ w. f (at + 2 * w)) (there_and_back word (omega arith)) ∙ ap f (omega arith)
      | inr odd ↦
          ap (λ j. slice_index (high ++ low) j) (omega arith)
          ∙ get_or-append_right high low 32 (32 + word_of_lane word) 0 h.long (omega arith) ∙ ap (λ j. slice_index low j) (omega arith)
          ∙ h'.each (word_of_lane word) (omega arith) ∙ ap (λ w. f (at + 2 * w + 1)) (there_and_back word (omega arith)) ∙ ap f (omega arith)
    ])

-- what stands from a place on, and zeros after it
pub padded_at : (bytes part : List ℕ) (at n : ℕ) → at ≤ length bytes → n ≡ length bytes - at → part ≡ drop at bytes → (k : ℕ) → slice_index (part ++ drop n (replicate 64 0)) k ≡ slice_index bytes (at + k)
padded_at bytes part at n starts is e k =
    let long : length part ≡ n = ap length e ∙ length-drop at bytes ∙ sym is in
    elim (cases_lt k n) [
      | inl before ↦ get_or_append_left part (drop n (replicate 64 0)) 0 k (omega arith) ∙ ap (λ xs. slice_index xs k) e ∙ get_or-drop at bytes k 0
      | inr after ↦
          get_or-append_right part (drop n (replicate 64 0)) n k 0 long after ∙ get_or-drop n (replicate 64 0) (k - n) 0 ∙ zero_byte 64 (n + (k - n))
          ∙ sym (get_or-eq_default bytes 0 (omega arith))
    ]

-- the sum of the part from `at` on is put in its place
pub part_added : (f g : ℕ → ℕ) (old before sums new part rest : List ℕ) (at : ℕ) → at ≤ length before → length sums ≡ 64 → length before ≤ at + 64
    → ((k : ℕ) → slice_index sums k ≡ slice_index before (at + k)) → ((k : ℕ) → g k ≡ f (at + k)) → IsSumBelow g sums 64 new
    → part ≡ take (length before - at) new → length rest ≡ 0
    → IsSumBelow f old at before → IsSumBelow f old (length before) (take at before ++ (part ++ rest))
part_added f g old before sums new part rest at starts wide ends held same added is empty sum =
    let front = length-take-le at before starts in
    let wide_part = ap length is ∙ length-take-le (length before - at) new (omega (arith, added.long)) in
    let all : length (take at before ++ (part ++ rest)) ≡ length before =
    omega (arith, front, wide_part, length-append (take at before) (part ++ rest), length-append part rest) in
    record {
      bytes = sum.bytes;
      long = all ∙ sum.long;
      below = λ k l. elim (cases_lt k at) [
        | inl early ↦ get_or_append_left (take at before) (part ++ rest) 0 k (omega (arith, front)) ∙ get_or-take at before k 0 early ∙ sum.below k early
        | inr late ↦
            let here : at + (k - at) ≡ k = omega arith in
            get_or-append_right (take at before) (part ++ rest) at k 0 front late
            ∙ get_or_append_left part rest 0 (k - at) (omega (arith, wide_part))
            ∙ ap (λ xs. slice_index xs (k - at)) is
            ∙ get_or-take (length before - at) new (k - at) 0 (omega arith)
            ∙ added.below (k - at) (omega arith)
            ∙ ap₂ (λ (s t : ℕ). bit_xor s t) (held (k - at) ∙ ap (λ j. slice_index before j) here ∙ sum.above k late) (same (k - at) ∙ ap f here)
      ];
      above = λ k l. get_or-eq_default (take at before ++ (part ++ rest)) 0 (omega (arith, all)) ∙ sym (get_or-eq_default old 0 (omega (arith, sum.long)));
    }
