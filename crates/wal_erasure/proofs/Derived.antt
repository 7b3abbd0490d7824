-- What one level of the derivative does, from what the calls on the halves do.
use Rattle.wal_erasure.proofs.Common.{◌≡◌, ℕ, suc, ◌+◌, ◌*◌, ◌^◌, ◌<◌, List, ◌++◌, length, slice_index, bit_xor, sym, ap, ap₂, ◌∙◌, xor_assoc, xor_comm, times, word_at, word_at-lt, skew, value, lane, scaled, WasAdded, value-zero, value-suc, value-same, value-line, lane-left, lane-right, lane-sum, rate, quotient, AreDerived}
use Rattle.wal_fft.proofs.Steps.{AreHalves}
use Rattle.wal_erasure.proofs.DerivativeLaws.{quotient-zero, quotient-same, quotient_own, rate-lt}

pub record Derives (width j : ℕ) (low high low_derived low_sum high_derived : List ℕ) : Type 0 where
  pub few : j < 10
  pub bytes : (k : ℕ) → slice_index high k < 256
  pub halves : AreHalves width j low high
  pub derived_long : length low_derived ≡ 2 ^ j * (2 * width)
  pub new_halves : AreHalves width j low_sum high_derived
  pub in_low : AreDerived width j low low_derived
  pub to_low : WasAdded (scaled (rate j) high) 0 low_derived low_sum
  pub in_high : AreDerived width j high high_derived

module _ (width j : ℕ) (low high low_derived low_sum high_derived : List ℕ) (h : Derives width j low high low_derived low_sum high_derived) where
  lower_value : (w : ℕ) → w < width → (x : ℕ) → value j (lane width (low_sum ++ high_derived) w) x
      ≡ bit_xor (quotient j (lane width low w) x x) (times (rate j) (value j (lane width high w) x))
  lower_value w l x =
      let r = rate j in
      value-same j (lane width (low_sum ++ high_derived) w) (λ i. bit_xor (lane width low_derived w i) (times (rate j) (lane width high w i))) x
      (λ i below.
      lane-left width (2 ^ j) low_sum high_derived w i h.new_halves.low_long l below
      ∙ lane-sum (scaled (rate j) high) width (2 ^ j) low_derived low_sum w i h.derived_long h.to_low l below)
      ∙ value-line j (lane width low_derived w) (lane width high w) r x (rate-lt j h.few) (λ i. word_at-lt high (width * i + w) h.bytes)
      ∙ ap (λ (s : ℕ). bit_xor s (times r (value j (lane width high w) x))) (h.in_low w l x)

  upper_value : (w : ℕ) → w < width → (x : ℕ) → value j (λ i. lane width (low_sum ++ high_derived) w (2 ^ j + i)) x ≡ quotient j (lane width high w) x x
  upper_value w l x =
      value-same j (λ i. lane width (low_sum ++ high_derived) w (2 ^ j + i)) (lane width high_derived w) x
      (λ i below. lane-right width (2 ^ j) low_sum high_derived w i h.new_halves.low_long)
      ∙ h.in_high w l x

  whole_quotient : (w : ℕ) → w < width → (x : ℕ) → quotient (suc j) (lane width (low ++ high) w) x x
      ≡ bit_xor (bit_xor (quotient j (lane width low w) x x) (times (skew j x) (quotient j (lane width high w) x x))) (times (rate j) (value j (lane width high w) x))
  whole_quotient w l x =
      let c : ℕ → ℕ = lane width (low ++ high) w in
      let upper : (i : ℕ) → i < 2 ^ j → lane width (low ++ high) w (2 ^ j + i) ≡ lane width high w i =
      λ i below. lane-right width (2 ^ j) low high w i h.halves.low_long in
      quotient_own j (lane width (low ++ high) w) x h.few
      ∙ ap₂ (λ (u v : ℕ). bit_xor u (times (rate j) v))
      (ap₂ (λ (u v : ℕ). bit_xor u (times (skew j x) v))
      (quotient-same j (lane width (low ++ high) w) (lane width low w) x x (λ i below. lane-left width (2 ^ j) low high w i h.halves.low_long l below))
      (quotient-same j (λ i. lane width (low ++ high) w (2 ^ j + i)) (lane width high w) x x upper))
      (value-same j (λ i. lane width (low ++ high) w (2 ^ j + i)) (lane width high w) x upper)

  pub derived : AreDerived width (suc j) (low ++ high) (low_sum ++ high_derived)
  derived w l x =
      let q = quotient j (lane width low w) x x in
      let r = times (rate j) (value j (lane width high w) x) in
      let t = times (skew j x) (quotient j (lane width high w) x x) in
      value-suc j (lane width (low_sum ++ high_derived) w) x
      ∙ ap₂ (λ (u v : ℕ). bit_xor u (times (skew j x) v)) (lower_value w l x) (upper_value w l x)
      ∙ xor_assoc q r t ∙ ap (bit_xor q) (xor_comm r t) ∙ sym (xor_assoc q t r)
      ∙ sym (whole_quotient w l x)

pub derived_level : {width level j : ℕ} {low high low_derived low_sum high_derived : List ℕ} → suc j ≡ level
    → Derives width j low high low_derived low_sum high_derived → AreDerived width level (low ++ high) (low_sum ++ high_derived)
derived_level up h = rw (← up) (derived _ _ _ _ _ _ _ h)

-- one coefficient has the derivative 0
pub derived_none : (width level : ℕ) (old new : List ℕ) → level ≡ 0 → ((p : ℕ) → word_at new p ≡ 0) → AreDerived width level old new
derived_none width level old new none zeros =
    rw none
    (λ w l x. value-zero (lane width new w) x ∙ zeros (width * 0 + w) ∙ sym (quotient-zero (lane width old w) x x))
