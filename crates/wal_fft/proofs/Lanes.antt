-- Words of lists that are put together, of parts that are put back, and of runs.
use Rattle.wal_fft.proofs.Common.{◌≡◌, ℕ, ◌+◌, ◌-◌, ◌*◌, ◌<◌, ◌≤◌, List, ◌++◌, length, take, drop, slice_index, bit_xor, refl, sym, ap, ap₂, ◌∙◌, arith, mul-le-mul_left, length-take-le, get_or-take, word_at, word_at-take, word_at-drop, lane, WasAdded}
use Rattle.std.proofs.Math.Seq.{take-append_seam, drop-append_seam}
use Rattle.std.proofs.lemmas.Slice.{take-put_mid_below, drop-put_mid}
use borrow.Rule.Slice.PartMut.{put_mid, post_of, same_len_mid, mid_len}

-- ---- two lists, one after the other

pub word_at-left : (xs ys : List ℕ) (p : ℕ) → 2 * p + 1 < length xs → word_at (xs ++ ys) p ≡ word_at xs p
word_at-left xs ys p within =
    sym (word_at-take (length xs) (xs ++ ys) p within) ∙ ap (λ (zs : List ℕ). word_at zs p) (take-append_seam xs ys)

pub word_at-right : (h : ℕ) (xs ys : List ℕ) (p : ℕ) → length xs ≡ 2 * h → word_at (xs ++ ys) (h + p) ≡ word_at ys p
word_at-right h xs ys p long =
    sym (word_at-drop h (xs ++ ys) p)
    ∙ ap (λ (zs : List ℕ). word_at zs p) (ap (λ (n : ℕ). drop n (xs ++ ys)) (sym long) ∙ drop-append_seam xs ys)

-- ---- a list with a part put back

pub word_at-put_before : (at k : ℕ) (xs ys : List ℕ) (p : ℕ) → at ≤ length xs → 2 * p + 1 < at → word_at (put_mid at k xs ys) p ≡ word_at xs p
word_at-put_before at k xs ys p inside below =
    sym (word_at-take at (put_mid at k xs ys) p below)
    ∙ ap (λ (zs : List ℕ). word_at zs p) (take-put_mid_below at k xs ys at (omega arith) inside)
    ∙ word_at-take at xs p below

pub word_at-put_within : (h at k : ℕ) (xs ys : List ℕ) (q : ℕ) → at ≡ 2 * h → at ≤ length xs → 2 * q + 1 < length ys
    → word_at (put_mid at k xs ys) (h + q) ≡ word_at ys q
word_at-put_within h at k xs ys q even inside within =
    word_at-right h (take at xs) (ys ++ post_of at k xs) q (length-take-le at xs inside ∙ even) ∙ word_at-left ys (post_of at k xs) q within

pub word_at-put_after : (h at k : ℕ) (xs ys : List ℕ) (p : ℕ) → at + k ≡ 2 * h → at ≤ length xs → length ys ≡ k → h ≤ p
    → word_at (put_mid at k xs ys) p ≡ word_at xs p
word_at-put_after h at k xs ys p even inside long above =
    let place : p ≡ h + (p - h) = omega arith in
    let same : drop (2 * h) (put_mid at k xs ys) ≡ drop (2 * h) xs = drop-put_mid at k xs ys (2 * h) (omega arith) inside long in
    ap (word_at (put_mid at k xs ys)) place
    ∙ sym (word_at-drop h (put_mid at k xs ys) (p - h))
    ∙ ap (λ (zs : List ℕ). word_at zs (p - h)) same
    ∙ word_at-drop h xs (p - h)
    ∙ ap (word_at xs) (sym place)

pub byte-put_before : (at k : ℕ) (xs ys : List ℕ) (i : ℕ) → at ≤ length xs → i < at → slice_index (put_mid at k xs ys) i ≡ slice_index xs i
byte-put_before at k xs ys i inside below =
    sym (get_or-take at (put_mid at k xs ys) i 0 below)
    ∙ ap (λ (zs : List ℕ). slice_index zs i) (take-put_mid_below at k xs ys at (omega arith) inside)
    ∙ get_or-take at xs i 0 below

-- a word of a part
pub copied_word : (from n base : ℕ) (xs part : List ℕ) (w : ℕ) → from ≡ 2 * base → part ≡ take n (drop from xs) → 2 * w + 1 < n
    → word_at part w ≡ word_at xs (base + w)
copied_word from n base xs part w even same within =
    ap (λ (ys : List ℕ). word_at ys w) same ∙ word_at-take n (drop from xs) w within
    ∙ ap (λ (a : ℕ). word_at (drop a xs) w) even ∙ word_at-drop base xs w

-- the words from one place on
abbrev tail : ℕ → List ℕ → List ℕ
tail from xs = take (length xs - 2 * from) (drop (2 * from) xs)

-- a sum in the words from one place on, of what the source's words are made to
pub sum_from : (made : ℕ → ℕ) (from : ℕ) (old source part : List ℕ) → length source ≡ length old → 2 * from ≤ length old
    → length part ≡ length (tail from old)
    → ((q : ℕ) → 2 * q + 1 < length (tail from old) → word_at part q ≡ bit_xor (word_at (tail from old) q) (made (word_at (tail from source) q)))
    → WasAdded (λ p. made (word_at source p)) from old (put_mid (2 * from) (length old - 2 * from) old part)
sum_from made from old source part same inside long sums =
    let most = mid_len (2 * from) (length old) old (omega arith) in
    record {
      long = same_len_mid (2 * from) (length old - 2 * from) old part long;
      kept = λ p below. word_at-put_before (2 * from) (length old - 2 * from) old part p inside (omega arith);
      added = λ p above within.
          let place : p ≡ from + (p - from) = omega arith in
          rw place
          (word_at-put_within from (2 * from) (length old - 2 * from) old part (p - from) refl inside (omega arith)
          ∙ sums (p - from) (omega arith)
          ∙ ap₂ (λ (s t : ℕ). bit_xor s (made t))
          (copied_word (2 * from) (length old - 2 * from) from old (tail from old) (p - from) refl refl (omega arith))
          (copied_word (2 * from) (length source - 2 * from) from source (tail from source) (p - from) refl refl (omega arith)));
    }

-- ---- runs

-- the words of a run come before those of a later one
pub inside : (width w k n : ℕ) → w < width → k < n → width * k + w < width * n
inside width w k n low below = omega (arith, mul-le-mul_left {m = k + 1} {n = n} width (omega arith))

-- those of a run do not come before the first one's of an earlier one
pub beyond : (width w k n : ℕ) → n ≤ k → width * n ≤ width * k + w
beyond width w k n above = omega (arith, mul-le-mul_left {m = n} {n = k} width above)

-- a word of one of n runs lies in them
pub fits : (width w k n : ℕ) → w < width → k < n → 2 * (width * k + w) + 1 < n * (2 * width)
fits width w k n low below =
    let l = inside width w k n low below in
    let e : n * (2 * width) ≡ 2 * (width * n) = omega arith in
    omega arith

pub lane-left : (width n : ℕ) (xs ys : List ℕ) (w k : ℕ) → length xs ≡ n * (2 * width) → w < width → k < n → lane width (xs ++ ys) w k ≡ lane width xs w k
lane-left width n xs ys w k long low below =
    let l = fits width w k n low below in
    word_at-left xs ys (width * k + w) (omega arith)

pub lane-right : (width n : ℕ) (xs ys : List ℕ) (w k : ℕ) → length xs ≡ n * (2 * width) → lane width (xs ++ ys) w (n + k) ≡ lane width ys w k
lane-right width n xs ys w k long =
    let place : width * (n + k) + w ≡ width * n + (width * k + w) = omega arith in
    ap (word_at (xs ++ ys)) place ∙ word_at-right (width * n) xs ys (width * k + w) (omega arith)

-- what a sum in the words from a run on did to the runs before
pub lane-kept : (f : ℕ → ℕ) (width from : ℕ) (old new : List ℕ) (w k : ℕ) → WasAdded f (width * from) old new → w < width → k < from
    → lane width new w k ≡ lane width old w k
lane-kept f width from old new w k h low below = h.kept (width * k + w) (inside width w k from low below)

-- and to the runs from there on
pub lane-added : (f : ℕ → ℕ) (width n from : ℕ) (old new : List ℕ) (w k : ℕ) → length old ≡ n * (2 * width) → WasAdded f (width * from) old new
    → w < width → from ≤ k → k < n → lane width new w k ≡ bit_xor (lane width old w k) (f (width * k + w))
lane-added f width n from old new w k long h low above below =
    let l = fits width w k n low below in
    h.added (width * k + w) (beyond width w k from above) (omega arith)

-- what a sum in all words did
pub lane-sum : (f : ℕ → ℕ) (width n : ℕ) (old new : List ℕ) (w k : ℕ) → length old ≡ n * (2 * width) → WasAdded f 0 old new
    → w < width → k < n → lane width new w k ≡ bit_xor (lane width old w k) (f (width * k + w))
lane-sum f width n old new w k long h low below =
    let l = fits width w k n low below in
    h.added (width * k + w) (omega arith) (omega arith)
