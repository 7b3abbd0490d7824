-- Runs of words that are put, taken and copied one after the other.
use Rattle.wal_erasure.proofs.Common.{◌≡◌, ℕ, ◌+◌, ◌*◌, ◌<◌, ◌≤◌, inl, inr, List, length, slice_index, sym, ◌∙◌, arith, times, Gf, Distinct, element_at, word_at, lane, ArePut, AreTaken, IsCopy}
use borrow.Rule.Slice.PartMut.{put_mid}
use Rattle.wal_fft.proofs.StripLaws.{below_next, IsReplaced, word-own, word-apart, word-before}

-- ---- putting at known points

pub put_more : (words start width place at k : ℕ) (known : List ℕ) (factors : List Gf) (regions old part : List ℕ) → Distinct known → place < length known
    → at ≡ 2 * width * slice_index known place → k ≡ 2 * width → at + k ≤ length old → length part ≡ k
    → ((w : ℕ) → w < width → word_at part w ≡ times (element_at factors (slice_index known place)) (word_at regions (words * place + (start + w))))
    → ArePut words start width known place factors regions old → ArePut words start width known (place + 1) factors regions (put_mid at k old part)
put_more words start width place at k known factors regions old part distinct inside at_is k_is room long product h =
    let r : IsReplaced width 0 width (slice_index known place) at k old part = omega arith in
    record {
      products = λ w l i below.
          elim (below_next i place below) [
            | inl less ↦ word-apart r (slice_index known i) w (distinct i place 0 less inside) l ∙ h.products w l i less
            | inr same ↦ rw same (word-own r (width * slice_index known place + w) w (omega arith) l ∙ product w l)
          ];
      zeros = λ w l x none.
          word-apart r x w (λ same. none place (omega arith) (sym same)) l ∙ h.zeros w l x (λ i below. none i (omega arith));
    }

-- ---- taking

pub taken_more : (words start width place at k : ℕ) (factors : List Gf) (strip old mid part : List ℕ)
    → at ≡ 2 * (words * place + start) → k ≡ 2 * width → at + k ≤ length mid → length part ≡ k → start + width ≤ words
    → ((w : ℕ) → w < width → word_at part w ≡ times (element_at factors place) (lane width strip w place))
    → AreTaken words start width place factors strip old mid → AreTaken words start width (place + 1) factors strip old (put_mid at k mid part)
taken_more words start width place at k factors strip old mid part at_is k_is room long within product h =
    let r : IsReplaced words start width place at k mid part = omega arith in
    record {
      products = λ w l i below.
          elim (below_next i place below) [
            | inl less ↦ word-apart r i (start + w) (λ same. absurd (omega arith)) (omega arith) ∙ h.products w l i less
            | inr same ↦ rw same (word-own r (words * place + (start + w)) w (omega arith) l ∙ product w l)
          ];
      before = λ i p below. word-before r i p below ∙ h.before i p below;
    }

-- ---- copying

pub copy_one : (words from to at k : ℕ) (sources old part : List ℕ) → at ≡ 2 * words * to → k ≡ 2 * words → at + k ≤ length old → length part ≡ k
    → ((w : ℕ) → w < words → word_at part w ≡ word_at sources (words * from + w)) → IsCopy words from to sources old (put_mid at k old part)
copy_one words from to at k sources old part at_is k_is room long same =
    let r : IsReplaced words 0 words to at k old part = omega arith in
    record {
      copied = λ w l. word-own r (words * to + w) w (omega arith) l ∙ same w l;
      kept = λ x other w l. word-apart r x w other l;
    }
