-- Strips that are gathered, scattered and extended.
use Rattle.wal_fft.proofs.Common.{◌≡◌, ◌≢◌, ℕ, ◌+◌, ◌-◌, ◌*◌, ◌^◌, ◌<◌, ◌≤◌, ◌⊎◌, inl, inr, List, length, take, slice_index, sym, ap, ap₂, ◌∙◌, arith, mul-le-mul_left, mul-le-mul_right, cases_lt, ext_get_or, get_or-take, length-take-le, IsCodeword, IsCodeword-same, word_at, region, word_at-lt, word_at-region, value, lane, AreValues, AreCoefficients, IsGathered, IsScattered, IsExtendedStrip}
use borrow.Rule.Slice.PartMut.{put_mid}
use Rattle.wal_fft.proofs.Degrees.{values_codeword}
use Rattle.wal_fft.proofs.Lanes.{fits, word_at-put_before, word_at-put_within, word_at-put_after, byte-put_before}

-- ---- places

-- runs that come before another one do not reach it
run_before : (run i place : ℕ) → i < place → run * i + run ≤ run * place
run_before run i place below = omega (arith, mul-le-mul_left {m = i + 1} {n = place} run (omega arith))

-- the runs of the first places are no longer than those of all
pub runs_fit : (place known run : ℕ) → place < known → run * place + run ≤ known * run
runs_fit place known run below = omega (arith, mul-le-mul_right {m = place + 1} {n = known} run (omega arith))

-- below one more
pub below_next : (i n : ℕ) → i < n + 1 → (i < n) ⊎ (i ≡ n)
below_next i n below = elim (cases_lt i n) [ inl l ↦ inl l | inr g ↦ inr (omega arith) ]

-- ---- words from `start` on of one region are replaced

pub record IsReplaced (stride start width point at k : ℕ) (old part : List ℕ) : Type 0 where
  pub at_is : at ≡ 2 * (stride * point + start)
  pub k_is : k ≡ 2 * width
  pub room : at + k ≤ length old
  pub long : length part ≡ k
  pub within : start + width ≤ stride

module _ {stride start width point at k : ℕ} {old part : List ℕ} (r : IsReplaced stride start width point at k old part) where
  pub word-own : (p w : ℕ) → p ≡ stride * point + start + w → w < width → word_at (put_mid at k old part) p ≡ word_at part w
  word-own p w place low =
      ap (word_at (put_mid at k old part)) place
      ∙ word_at-put_within (stride * point + start) at k old part w r.at_is (omega arith) (omega arith)

  before_run : (p : ℕ) → p < stride * point + start → word_at (put_mid at k old part) p ≡ word_at old p
  before_run p below = word_at-put_before at k old part p (omega arith) (omega arith)

  after_run : (p : ℕ) → stride * point + start + width ≤ p → word_at (put_mid at k old part) p ≡ word_at old p
  after_run p above = word_at-put_after (stride * point + start + width) at k old part p (omega arith) (omega arith) r.long above

  pub word-apart : (x p : ℕ) → x ≢ point → p < stride → word_at (put_mid at k old part) (stride * x + p) ≡ word_at old (stride * x + p)
  word-apart x p other low =
      elim (cases_lt x point) [
        | inl early ↦ let l = run_before stride x point early in before_run (stride * x + p) (omega arith)
        | inr reached ↦ let l = run_before stride point x (omega arith) in after_run (stride * x + p) (omega arith)
      ]

  pub word-before : (x p : ℕ) → p < start → word_at (put_mid at k old part) (stride * x + p) ≡ word_at old (stride * x + p)
  word-before x p low =
      elim (cases_lt point x) [
        | inl later ↦ let l = run_before stride point x later in after_run (stride * x + p) (omega arith)
        | inr early ↦
            let l : stride * x ≤ stride * point = mul-le-mul_left {m = x} {n = point} stride early in
            before_run (stride * x + p) (omega arith)
      ]

-- ---- gathering

pub gathered_more : (words start width place at k : ℕ) (regions old part : List ℕ) → at ≡ 2 * width * place → k ≡ 2 * width → at + k ≤ length old
    → length part ≡ k → ((w : ℕ) → w < width → word_at part w ≡ word_at regions (words * place + (start + w)))
    → IsGathered words start width place regions old → IsGathered words start width (place + 1) regions (put_mid at k old part)
gathered_more words start width place at k regions old part at_is k_is room long words_of h =
    let r : IsReplaced width 0 width place at k old part = omega arith in
    record {
      copied = λ w l i below.
          elim (below_next i place below) [
            | inl less ↦ word-apart r i w (λ same. absurd (omega arith)) l ∙ h.copied w l i less
            | inr same ↦ rw same (word-own r (width * place + w) w (omega arith) l ∙ words_of w l)
          ];
      zeros = λ w l i above. word-apart r i w (λ same. absurd (omega arith)) l ∙ h.zeros w l i (omega arith);
    }

-- ---- scattering

pub scattered_more : (words start width known place at k : ℕ) (strip old mid part : List ℕ) → at ≡ 2 * (words * place + start) → k ≡ 2 * width
    → at + k ≤ length mid → length part ≡ k → start + width ≤ words → known ≤ place
    → ((w : ℕ) → w < width → word_at part w ≡ lane width strip w place)
    → IsScattered words start width known place strip old mid → IsScattered words start width known (place + 1) strip old (put_mid at k mid part)
scattered_more words start width known place at k strip old mid part at_is k_is room long within later words_of h =
    let r : IsReplaced words start width place at k mid part = omega arith in
    let from = mul-le-mul_left {m = known} {n = place} words later in
    record {
      copied = λ w l i above below.
          elim (below_next i place below) [
            | inl less ↦ word-apart r i (start + w) (λ same. absurd (omega arith)) (omega arith) ∙ h.copied w l i above less
            | inr same ↦ rw same (word-own r (words * place + (start + w)) w (omega arith) l ∙ words_of w l)
          ];
      first = λ b below. byte-put_before at k mid part b (omega arith) (omega arith) ∙ h.first b below;
      before = λ i p below. word-before r i p below ∙ h.before i p below;
    }

-- ---- one strip

pub record FillsStrip (words start width known total level : ℕ) (old gathered coeffs values new : List ℕ) : Type 0 where
  pub level_few : level ≤ 10
  pub few : total ≤ 1024
  pub enough : total ≤ 2 ^ level
  pub within : start + width ≤ words
  pub bytes : (k : ℕ) → slice_index coeffs k < 256
  pub gather : IsGathered words start width known old gathered
  pub restore : AreCoefficients width level 0 known gathered coeffs
  pub evaluate : AreValues width level 0 known total coeffs values
  pub scatter : IsScattered words start width known total values old new

module _ (words start width known total level : ℕ) (old gathered coeffs values new : List ℕ) (h : FillsStrip words start width known total level old gathered coeffs values new) where
  place_is : {i : ℕ} → 0 * 2 ^ level + i ≡ i
  place_is = omega arith

  strip_word : (w : ℕ) → w < width → IsCodeword known total (λ i. word_at new (words * i + (start + w)))
  strip_word w l =
      IsCodeword-same known total (value level (lane width coeffs w)) (λ i. word_at new (words * i + (start + w)))
      (λ i below.
      elim (cases_lt i known) [
        | inl early ↦
            let place = words * i + (start + w) in
            let reach = fits words (start + w) i known (omega arith) early in
            ap₂ (λ (s t : ℕ). s * 256 + t) (h.scatter.first (2 * place) (omega arith)) (h.scatter.first (2 * place + 1) reach)
            ∙ sym (h.gather.copied w l i early) ∙ h.restore.values w l i early ∙ ap (value level (lane width coeffs w)) place_is
        | inr late ↦
            h.scatter.copied w l i late below
            ∙ h.evaluate w l i (omega arith) (omega arith) (omega arith) ∙ ap (value level (lane width coeffs w)) place_is
      ])
      (values_codeword level known total (lane width coeffs w) h.level_few h.few (λ i. word_at-lt coeffs (width * i + w) h.bytes)
      (λ i above below. h.restore.others w l i above below ∙ h.gather.zeros w l i above))

  pub strip_codewords : IsExtendedStrip words start (start + width) known total old new
  strip_codewords = record {
    codewords = λ p from to.
        let place : start + (p - start) ≡ p = omega arith in rw (← place) (strip_word (p - start) (omega arith));
    first = h.scatter.first;
    before = h.scatter.before;
  }

-- ---- strips one after the other

pub strips_more : (words start end known total : ℕ) (old mid new : List ℕ) → IsExtendedStrip words 0 start known total old mid
    → IsExtendedStrip words start end known total mid new → IsExtendedStrip words 0 end known total old new
strips_more words start end known total old mid new h l = record {
  codewords = λ p from to.
      elim (cases_lt p start) [
        | inl early ↦
            IsCodeword-same known total (λ i. word_at mid (words * i + p)) (λ i. word_at new (words * i + p))
            (λ i below. l.before i p early) (h.codewords p from early)
        | inr late ↦ l.codewords p late to
      ];
  first = λ k below. l.first k below ∙ h.first k below;
  before = λ i p below. absurd (omega arith);
}

-- the words of all regions
pub all_codewords : (words end known total size : ℕ) (old new : List ℕ) → words ≤ end → size ≡ 2 * words → IsExtendedStrip words 0 end known total old new
    → (w : ℕ) → 2 * w < size → IsCodeword known total (λ i. word_at (region size new i) w)
all_codewords words end known total size old new all even h w below =
    let low : w < words = omega arith in
    rw even
    (IsCodeword-same known total (λ i. word_at new (words * i + w)) (λ i. word_at (region (2 * words) new i) w)
    (λ i l. word_at-region words i w new low) (h.codewords w (omega arith) (omega arith)))

-- a whole extended strip leaves the known regions as they were
pub first_same : (words end known total size : ℕ) (old new : List ℕ) → size ≡ 2 * words → known ≤ total → length old ≡ total * size → length new ≡ length old
    → IsExtendedStrip words 0 end known total old new → take (known * size) new ≡ take (known * size) old
first_same words end known total size old new even fewer long same h =
    let n = known * size in
    let fit : known * size ≤ total * size = mul-le-mul_right {m = known} {n = total} size fewer in
    let turned : known * size ≡ known * (2 * words) = rw even in
    ext_get_or 0 (take n new) (take n old) (omega (arith, length-take-le n new (omega arith), length-take-le n old (omega arith)))
    (λ k l.
    let below : k < known * size = omega (arith, length-take-le n new (omega arith)) in
    get_or-take n new k 0 below ∙ h.first k (omega arith) ∙ sym (get_or-take n old k 0 below))
