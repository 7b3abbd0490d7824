-- The tail of a list that is put back.
use Rattle.wal_matrix.proofs.Common.{◌≡◌, ℕ, ◌+◌, ◌-◌, ◌*◌, ◌<◌, ◌≤◌, List, ◌++◌, length, take, drop, ap, ◌∙◌, arith, length-take, length-drop, drop_at, take-append-drop, take-take, take-append-le, take-append-add, IsCodeword, IsCodeword-same, word_at, region, region-append_left}
use Rattle.std.proofs.lemmas.List.{length-take-le}
use borrow.Rule.Slice.PartMut.{put_mid, post_of}
use Rattle.wal_matrix.proofs.Places.{run_fits}

-- the tail has its bytes
pub tail_long : (place k : ℕ) (xs : List ℕ) → length xs ≡ place + k → length (take (length xs - place) (drop place xs)) ≡ k
tail_long place k xs long = omega (arith, length-take (length xs - place) (drop place xs), length-drop place xs)

-- what the tail keeps, the list keeps
pub tail_kept : (place more k : ℕ) (xs part : List ℕ) → k ≡ length xs - place → place ≤ length xs → more ≤ k → length part ≡ k
    → take more part ≡ take more (take k (drop place xs))
    → take (place + more) (put_mid place k xs part) ≡ take (place + more) xs
tail_kept place more k xs part is inside fits long kept =
    let front = take place xs in
    let front_long : length front ≡ place = length-take-le place xs inside in
    let rest = post_of place k xs in
    let number : place + more ≡ length front + more = omega arith in
    let new = take-append-le more part rest (omega arith) in
    let same = take-take more k (drop place xs) fits in
    let joins = take-append-add front (part ++ rest) more in
    cc (number, joins, new, kept, same, take-append-add front (drop place xs) more, take-append-drop place xs)

-- and the codeword that it is
pub tail_codeword : (place known total size k : ℕ) (xs part : List ℕ) → place ≤ length xs → length part ≡ total * size
    → ((w : ℕ) → 2 * w < size → IsCodeword known total (λ i. word_at (region size part i) w))
    → (w : ℕ) → 2 * w < size → IsCodeword known total (λ i. word_at (region size (drop place (put_mid place k xs part)) i) w)
tail_codeword place known total size k xs part inside long codewords w hw =
    let front = take place xs in
    let rest = post_of place k xs in
    let tail : drop place (put_mid place k xs part) ≡ part ++ rest = drop_at front (part ++ rest) place (length-take-le place xs inside) in
    IsCodeword-same known total (λ i. word_at (region size part i) w) (λ i. word_at (region size (drop place (put_mid place k xs part)) i) w)
    (λ i h.
    ap (λ (ys : List ℕ). word_at (region size ys i) w) tail
    ∙ ap (λ (ys : List ℕ). word_at ys w) (region-append_left size part rest i (omega (arith, run_fits i total size h))))
    (codewords w hw)
