-- What one level of the transform does, from what the calls on the halves do.
use Rattle.wal_fft.proofs.Common.{◌≡◌, ℕ, suc, ◌+◌, ◌-◌, ◌*◌, ◌^◌, ◌<◌, ◌≤◌, List, ◌++◌, length, slice_index, bit_xor, sym, ap₂, ◌∙◌, arith, pow-suc, ◌⊎◌, inl, inr, xor_assoc, xor_self, xor_zero_r, cases_lt, times, word_at, word_at-lt, skew, value, lane, scaled, AreValues, AreCoefficients, WasAdded}
use Rattle.wal_fft.proofs.Values.{AreWords, value-zero, at_low, at_high}
use Rattle.wal_fft.proofs.Blocks.{double}
use Rattle.wal_fft.proofs.Lanes.{lane-left, lane-right, lane-kept, lane-added, lane-sum}

-- ---- places of points

-- a block's first point from its halves' numbers
lower_start : (index j : ℕ) → 2 * index * 2 ^ j ≡ index * 2 ^ suc j
lower_start index j = rw (pow-suc 2 j) (omega arith)

upper_start : (index j u : ℕ) → (2 * index + 1) * 2 ^ j + u ≡ index * 2 ^ suc j + (2 ^ j + u)
upper_start index j u = rw (pow-suc 2 j) (omega arith)

-- ---- sums

-- what was added is added back
undone : {a b : ℕ} (c : ℕ) → a ≡ bit_xor b c → b ≡ bit_xor a c
undone {a} {b} c e = cc (xor_zero_r b, xor_self c, xor_assoc b c c)

-- what was added once more is as it was
pub turned : {f : ℕ → ℕ} {old new : List ℕ} → WasAdded f 0 old new → WasAdded f 0 new old
turned h = record {
  long = sym h.long;
  kept = λ p below. absurd (omega arith);
  added = λ p above within. undone _ (h.added p above (omega (arith, h.long)));
}

-- what was added twice is gone
module _ {f : ℕ → ℕ} {width n from : ℕ} {old sum coeffs new : List ℕ} (to : WasAdded f (width * from) old sum) (back : WasAdded f 0 new coeffs)
    (old_long : length old ≡ n * (2 * width)) (new_long : length new ≡ n * (2 * width)) {w k : ℕ} (l : w < width) (above : from ≤ k) (below : k < n) where
  twice : lane width coeffs w k ≡ lane width sum w k → lane width new w k ≡ lane width old w k
  twice same =
      undone _ (lane-sum f width n new coeffs w k new_long back l below)
      ∙ sym (undone _ (same ∙ lane-added f width n from old sum w k old_long to l above below))

-- ---- lists of two halves

pub record AreHalves (width j : ℕ) (low high : List ℕ) : Type 0 where
  pub low_long : length low ≡ 2 ^ j * (2 * width)
  pub high_long : length high ≡ 2 ^ j * (2 * width)

module _ {width j : ℕ} {low high : List ℕ} (halves : AreHalves width j low high) where
  at_lower : {w i : ℕ} → w < width → i < 2 ^ j → lane width (low ++ high) w i ≡ lane width low w i
  at_lower {w} {i} l below = lane-left width (2 ^ j) low high w i halves.low_long l below

  at_upper : (w u : ℕ) → lane width (low ++ high) w (2 ^ j + u) ≡ lane width high w u
  at_upper w u = lane-right width (2 ^ j) low high w u halves.low_long

-- ---- the sums of a level

-- the upper half times a skew was added to the lower half
pub record IsSummed (width j index : ℕ) (low high low_sum : List ℕ) : Type 0 where
  pub few : j < 10
  pub bytes : (k : ℕ) → slice_index (low ++ high) k < 256
  pub halves : AreHalves width j low high
  pub to_low : WasAdded (scaled (skew j (2 * index * 2 ^ j)) high) 0 low low_sum

module _ {width j index : ℕ} {low high low_sum : List ℕ} (h : IsSummed width j index low high low_sum) {w : ℕ} (l : w < width) where
  words : AreWords (lane width (low ++ high) w)
  words i = word_at-lt (low ++ high) (width * i + w) h.bytes

  low_sums : (i : ℕ) → i < 2 ^ j
      → lane width low_sum w i ≡ bit_xor (lane width (low ++ high) w i) (times (skew j (index * 2 ^ suc j)) (lane width (low ++ high) w (2 ^ j + i)))
  low_sums i below =
      lane-sum (scaled (skew j (2 * index * 2 ^ j)) high) width (2 ^ j) low low_sum w i h.halves.low_long h.to_low l below
      ∙ cc (at_lower h.halves l below, at_upper h.halves w i, lower_start index j)

  value_lower : {i : ℕ} → i < 2 ^ j
      → value j (lane width low_sum w) (2 * index * 2 ^ j + i) ≡ value (suc j) (lane width (low ++ high) w) (index * 2 ^ suc j + i)
  value_lower {i} below =
      rw (lower_start index j)
      (at_low j index i (lane width (low ++ high) w) (lane width low_sum w) h.few below words low_sums)

  -- and the sums were added to the upper half
  value_upper : {high_sum : List ℕ} {u : ℕ} → WasAdded (word_at low_sum) 0 high high_sum → u < 2 ^ j
      → value j (lane width high_sum w) ((2 * index + 1) * 2 ^ j + u) ≡ value (suc j) (lane width (low ++ high) w) (index * 2 ^ suc j + (2 ^ j + u))
  value_upper {high_sum} {u} to_high below =
      rw (upper_start index j u)
      (at_high j index u (lane width (low ++ high) w) (lane width high_sum w) h.few below words
      (λ i within.
      lane-sum (word_at low_sum) width (2 ^ j) high high_sum w i h.halves.high_long to_high l within
      ∙ ap₂ (λ (s t : ℕ). bit_xor s t) (sym (at_upper h.halves w i)) (low_sums i within)))

-- ---- evaluation

pub record Evaluates (width j index from to : ℕ) (low high low_sum high_sum low_values high_values : List ℕ) : Type 0 where
  pub sums : IsSummed width j index low high low_sum
  pub to_high : WasAdded (word_at low_sum) 0 high high_sum
  pub value_halves : AreHalves width j low_values high_values
  pub in_low : AreValues width j (2 * index) from to low_sum low_values
  pub in_high : AreValues width j (2 * index + 1) from to high_sum high_values

-- the values at one level from those of both halves
pub evaluated : {width level j index from to : ℕ} {low high low_sum high_sum low_values high_values : List ℕ} → suc j ≡ level
    → Evaluates width j index from to low high low_sum high_sum low_values high_values
    → AreValues width level index from to (low ++ high) (low_values ++ high_values)
evaluated {j = j} {index = index} up h = rw (← up) (λ w l i below after before.
    elim (cases_lt i (2 ^ j)) [
      | inl lower ↦
          let start = lower_start index j in
          at_lower h.value_halves l lower ∙ h.in_low w l i lower (omega arith) (omega arith) ∙ value_lower h.sums l lower
      | inr upper ↦
          let place : i ≡ 2 ^ j + (i - 2 ^ j) = omega arith in
          let within : i - 2 ^ j < 2 ^ j = omega (arith, pow-suc 2 j) in
          let start = upper_start index j (i - 2 ^ j) in
          rw place
          (at_upper h.value_halves w (i - 2 ^ j) ∙ h.in_high w l (i - 2 ^ j) within (omega arith) (omega arith)
          ∙ value_upper h.sums l h.to_high within)
    ])

-- ---- restoring, where the known points are in the lower half

pub record RestoresLower (width j index known : ℕ) (low high low_sum low_coeffs low_new : List ℕ) : Type 0 where
  pub lower : known ≤ 2 ^ j
  pub halves : AreHalves width j low high
  pub to_low : WasAdded (scaled (skew j (2 * index * 2 ^ j)) high) (width * known) low low_sum
  pub in_low : AreCoefficients width j (2 * index) known low_sum low_coeffs
  pub sums : IsSummed width j index low_new high low_coeffs

pub restored_lower : {width level j index known : ℕ} {low high low_sum low_coeffs low_new : List ℕ} → suc j ≡ level
    → RestoresLower width j index known low high low_sum low_coeffs low_new
    → AreCoefficients width level index known (low ++ high) (low_new ++ high)
restored_lower {width} {level} {j} {index} {known} {low} {high} {low_sum} up h = rw (← up) record {
  values = λ w l i below.
      let within : i < 2 ^ j = omega arith in
      at_lower h.halves l within
      ∙ sym (lane-kept (scaled (skew j (2 * index * 2 ^ j)) high) width known low low_sum w i h.to_low l below)
      ∙ h.in_low.values w l i below ∙ value_lower h.sums l within;
  others = λ w l i above within.
      elim (cases_lt i (2 ^ j)) [
        | inl lower ↦
            at_lower h.sums.halves l lower
            ∙ twice h.to_low h.sums.to_low h.halves.low_long h.sums.halves.low_long l above lower (h.in_low.others w l i above lower)
            ∙ sym (at_lower h.halves l lower)
        | inr upper ↦
            let place : i ≡ 2 ^ j + (i - 2 ^ j) = omega arith in
            rw place (at_upper h.sums.halves w (i - 2 ^ j) ∙ sym (at_upper h.halves w (i - 2 ^ j)))
      ];
}

-- ---- restoring, where the lower half is known

pub record RestoresBoth (width j index known : ℕ) (low high low_coeffs high_sum high_coeffs high_new low_new : List ℕ) : Type 0 where
  pub more : 2 ^ j ≤ known
  pub halves : AreHalves width j low high
  pub in_low : AreCoefficients width j (2 * index) (2 ^ j) low low_coeffs
  pub to_high : WasAdded (word_at low_coeffs) (width * (known - 2 ^ j)) high high_sum
  pub in_high : AreCoefficients width j (2 * index + 1) (known - 2 ^ j) high_sum high_coeffs
  pub high_back : WasAdded (word_at low_coeffs) 0 high_new high_coeffs
  pub sums : IsSummed width j index low_new high_new low_coeffs

pub restored_both : {width level j index known : ℕ} {low high low_coeffs high_sum high_coeffs high_new low_new : List ℕ} → suc j ≡ level → known ≤ 2 ^ level
    → RestoresBoth width j index known low high low_coeffs high_sum high_coeffs high_new low_new
    → AreCoefficients width level index known (low ++ high) (low_new ++ high_new)
restored_both {width} {level} {j} {index} {known} {low} {high} {low_coeffs} {high_sum} up most h = rw (← up) record {
  values = λ w l i below.
      elim (cases_lt i (2 ^ j)) [
        | inl lower ↦ at_lower h.halves l lower ∙ h.in_low.values w l i lower ∙ value_lower h.sums l lower
        | inr upper ↦
            let place : i ≡ 2 ^ j + (i - 2 ^ j) = omega arith in
            let early : i - 2 ^ j < known - 2 ^ j = omega arith in
            rw place
            (at_upper h.halves w (i - 2 ^ j)
            ∙ sym (lane-kept (word_at low_coeffs) width (known - 2 ^ j) high high_sum w (i - 2 ^ j) h.to_high l early)
            ∙ h.in_high.values w l (i - 2 ^ j) early
            ∙ value_upper h.sums l h.high_back (omega (arith, pow-suc 2 j, rw (← up) at most)))
      ];
  others = λ w l i above within.
      let place : i ≡ 2 ^ j + (i - 2 ^ j) = omega arith in
      let late : known - 2 ^ j ≤ i - 2 ^ j = omega arith in
      let inside : i - 2 ^ j < 2 ^ j = omega (arith, pow-suc 2 j) in
      rw place
      (at_upper h.sums.halves w (i - 2 ^ j)
      ∙ twice h.to_high h.high_back h.halves.high_long h.sums.halves.high_long l late inside (h.in_high.others w l (i - 2 ^ j) late inside)
      ∙ sym (at_upper h.halves w (i - 2 ^ j)));
}

-- ---- where nothing is done

-- one point
pub one_point : {level i : ℕ} (c : ℕ → ℕ) (x : ℕ) → level ≡ 0 → i < 2 ^ level → c i ≡ value level c x
one_point {level} {i} c x none below =
    let first : i ≡ 0 = omega (arith, rw none at below) in
    rw (first, none) (sym (value-zero c x))

-- no point of the block is wanted
pub none_wanted : {width level from to points : ℕ} (index : ℕ) (old new : List ℕ) → 0 < level → points ≡ 2 ^ (level - 1)
    → (2 * index * points + 2 * points ≤ from) ⊎ (to ≤ 2 * index * points) → AreValues width level index from to old new
none_wanted {level = level} {points = points} index old new some e out w l i below after before =
    let doubled = double level points some e in
    let start : index * 2 ^ level ≡ 2 * index * points = rw doubled (omega arith) in
    absurd (omega arith)
