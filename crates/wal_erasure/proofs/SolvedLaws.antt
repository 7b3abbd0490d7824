-- Strips that are solved, and all regions.
use Rattle.wal_erasure.proofs.Common.{◌≡◌, ℕ, ◌+◌, ◌-◌, ◌*◌, ◌^◌, ◌<◌, ◌≤◌, List, length, slice_index, Bool, false, cond, sym, ap, ap₂, ◌∙◌, arith, inl, inr, times, inverse, Gf, Distinct, combination, coefficient, element_at, combination-known, word_at, region, word_at-lt, word_at-region, value, lane, AreValues, AreCoefficients, AreDerived, is_known, others, AreFactors, ArePut, AreTaken, AreSolved, AreCopied, cases_Bool}
use Rattle.wal_code.proofs.Totals.{xor_below-same}
use Rattle.wal_erasure.proofs.LocatorLaws.{is_known-at, is_known-found, is_known-apart}
use Rattle.wal_erasure.proofs.Erased.{IsErasure, recovered}

-- ---- one strip

pub record SolvesStrip (words start width wanted level : ℕ) (known : List ℕ) (factors : List Gf) (sources strip coeffs derived values old new : List ℕ) : Type 0 where
  pub few : level ≤ 10
  pub distinct : Distinct known
  pub below : (k : ℕ) → k < length known → slice_index known k < 2 ^ level
  pub enough : wanted ≤ 2 ^ level
  pub made : AreFactors known (2 ^ level) (2 ^ level) factors
  pub source_bytes : (k : ℕ) → slice_index sources k < 256
  pub bytes : (k : ℕ) → slice_index coeffs k < 256
  pub put : ArePut words start width known (length known) factors sources strip
  pub restore : AreCoefficients width level 0 (2 ^ level) strip coeffs
  pub derive : AreDerived width level coeffs derived
  pub evaluate : AreValues width level 0 0 wanted derived values
  pub take : AreTaken words start width wanted factors values old new

module _ (words start width wanted level : ℕ) (known : List ℕ) (factors : List Gf) (sources strip coeffs derived values old new : List ℕ)
    (h : SolvesStrip words start width wanted level known factors sources strip coeffs derived values old new) where
  factor : {b : Bool} (x : ℕ) → x < 2 ^ level → is_known known x ≡ b
      → element_at factors x ≡ cond b (others known (2 ^ level) x) (inverse (others known (2 ^ level) x))
  factor x below e =
      h.made x below ∙ ap (λ (b : Bool). cond b (others known (2 ^ level) x) (inverse (others known (2 ^ level) x))) e

  at_point : (w : ℕ) → w < width → (x : ℕ) → x < 2 ^ level → value level (lane width coeffs w) x ≡ lane width strip w x
  at_point w l x below =
      let place : 0 * 2 ^ level + x ≡ x = omega arith in
      sym (h.restore.values w l x below ∙ ap (value level (lane width coeffs w)) place)

  erasure : (w : ℕ) → w < width → IsErasure known level (λ k. word_at sources (words * k + (start + w))) (lane width coeffs w)
  erasure w l = record {
    few = h.few;
    distinct = h.distinct;
    below = h.below;
    words = λ k i. word_at-lt sources (words * k + (start + w)) h.source_bytes;
    coefficients = λ i. word_at-lt coeffs (width * i + w) h.bytes;
    at_known = λ k i.
        at_point w l (slice_index known k) (h.below k i) ∙ h.put.products w l k i
        ∙ ap (λ (s : ℕ). times s (word_at sources (words * k + (start + w)))) (factor (slice_index known k) (h.below k i) (is_known-at known k i));
    at_missing = λ x below missing. at_point w l x below ∙ h.put.zeros w l x (is_known-apart known x missing);
  }

  solved_word : (w : ℕ) → w < width → (x : ℕ) → x < wanted → is_known known x ≡ false
      → word_at new (words * x + (start + w)) ≡ combination known (λ k. word_at sources (words * k + (start + w))) x
  solved_word w l x below missing =
      let place : 0 * 2 ^ level + x ≡ x = omega arith in
      let within : x < 2 ^ level = omega arith in
      h.take.products w l x below
      ∙ ap₂ (λ (s t : ℕ). times s t) (factor x within missing)
      (h.evaluate w l x within (omega arith) (omega arith) ∙ ap (value level (lane width derived w)) place ∙ h.derive w l x)
      ∙ recovered known level (λ k. word_at sources (words * k + (start + w))) (lane width coeffs w) (erasure w l) x within missing

  pub strip_solved : AreSolved words start (start + width) wanted known sources old new
  strip_solved = record {
    sums = λ p from to x below missing.
        let place : start + (p - start) ≡ p = omega arith in
        rw (← place) (solved_word (p - start) (omega arith) x below missing);
    before = h.take.before;
  }

-- ---- all regions

module _ (words wanted : ℕ) (known sources old mid new : List ℕ) (distinct : Distinct known)
    (points : (k : ℕ) → k < length known → slice_index known k < 65536) (bytes : (k : ℕ) → slice_index sources k < 256)
    (solved : AreSolved words 0 words wanted known sources old mid) (copied : AreCopied words wanted known (length known) sources mid new) where
  all_words : (w : ℕ) → w < words → (x : ℕ) → x < wanted → word_at new (words * x + w) ≡ combination known (λ k. word_at sources (words * k + w)) x
  all_words w l x below =
      elim (cases_Bool (is_known known x)) [
        | inl taken ↦
            let found = is_known-found known x taken in
            let there = combination-known known (λ k. word_at sources (words * k + w)) distinct points (λ i o. word_at-lt sources (words * i + w) bytes) in
            rw (← found.2) (copied.copied found.0 found.1 (rw found.2 below) w l ∙ sym (there found.0 found.1))
        | inr free ↦ copied.kept x (is_known-apart known x free) w l ∙ solved.sums w (omega arith) l x below free
      ]

  pub all_solved : (size : ℕ) → size ≡ 2 * words → (w : ℕ) → 2 * w < size → (x : ℕ) → x < wanted
      → word_at (region size new x) w ≡ combination known (λ k. word_at (region size sources k) w) x
  all_solved size even w l x below =
      let low : w < words = omega arith in
      rw even
      (word_at-region words x w new low ∙ all_words w low x below
      ∙ xor_below-same (length known) (λ i. times (coefficient known (slice_index known i) x) (word_at sources (words * i + w)))
      (λ i. times (coefficient known (slice_index known i) x) (word_at (region (2 * words) sources i) w))
      (λ i o. ap (times (coefficient known (slice_index known i) x)) (sym (word_at-region words i w sources low))))
