-- Lanes of the toy digest over texts that are joined.
use Rattle.wal_tree.proofs.Common.{◌≡◌, ℕ, zero, suc, ◌+◌, ◌-◌, ◌*◌, ◌<◌, ◌≤◌, List, [], ◌∷◌, ◌++◌, length, take, drop, replicate, refl, ap, sym, ◌∙◌, arith, drop-append-le, drop-drop, drop-take, take-append-le, take-take, take-add, put_at, piece_within, put_before, put_here, empty_entry, leaf, leaves, node, pair_up, pieces, root_of, ◌%◌, get_or, ap₂, length-append, ◌==◌, if◌then◌else◌, bit_xor, get_or-replicate, lane_sum, toy32}
use Rattle.std.proofs.lemmas.List.{length-drop}
use Rattle.wal_tree.proofs.Roots.{root_of-pair_up}
use Rattle.std.specs.Int.Bits.{xor_assoc, xor_zero_l}
use Rattle.std.proofs.lemmas.List.FromFn.{fill_by_all}

-- a lane over two texts: the second one's positions go on from the first one's
lane_sum-append : (k p q : ℕ) (xs ys : List ℕ) → p + length xs ≡ q → lane_sum k p (xs ++ ys) ≡ bit_xor (lane_sum k p xs) (lane_sum k q ys)
lane_sum-append k p q [] ys e = let same : p ≡ q = omega arith in rw (xor_zero_l, same) refl
lane_sum-append k p q (x ∷ xs) ys e =
    ap (bit_xor (if p % 32 == k then x else 0)) (lane_sum-append k (p + 1) q xs ys (omega arith))
    ∙ sym (xor_assoc (if p % 32 == k then x else 0) (lane_sum k (p + 1) xs) (lane_sum k q ys))

-- only the position modulo 32 counts
lane_sum-mod : (k p q : ℕ) (xs : List ℕ) → p % 32 ≡ q % 32 → lane_sum k p xs ≡ lane_sum k q xs
lane_sum-mod k p q [] e = refl
lane_sum-mod k p q (x ∷ xs) e =
    ap₂ bit_xor (ap (λ r. if r == k then x else 0) e) (lane_sum-mod k (p + 1) (q + 1) xs (omega arith))

-- the lanes of three texts, added one after the other, are the digest of the three joined
pub toy32-joined : (s1 s2 s3 a b c : List ℕ) (m n : ℕ) → length s3 ≡ 32 →
    ((k : ℕ) → k < 32 → get_or s1 k 0 ≡ bit_xor (get_or (replicate 32 0) k 0) (lane_sum k 0 a)) →
    m ≡ (0 + length a) % 32 →
    ((k : ℕ) → k < 32 → get_or s2 k 0 ≡ bit_xor (get_or s1 k 0) (lane_sum k m b)) →
    n ≡ (m + length b) % 32 →
    ((k : ℕ) → k < 32 → get_or s3 k 0 ≡ bit_xor (get_or s2 k 0) (lane_sum k n c)) →
    s3 ≡ toy32 ((a ++ b) ++ c)
unfolding toy32
toy32-joined s1 s2 s3 a b c m n long after_a m_is after_b n_is after_c =
    fill_by_all (λ k. lane_sum k 0 ((a ++ b) ++ c)) s3 32 0 long (λ k within.
    let none : ◌≡◌ {A = ℕ} (get_or (replicate 32 0) k 0) 0 = get_or-replicate 32 k 0 0 within in
    let at_b = lane_sum-mod k m (length a) b (omega arith) in
    let at_c = lane_sum-mod k n (length a + length b) c (omega arith) in
    let joined_ab = lane_sum-append k 0 (length a) a b (omega arith) in
    let joined_abc = lane_sum-append k 0 (length a + length b) (a ++ b) c (omega (arith, length-append a b)) in
    cc (after_a k within, after_b k within, after_c k within, xor_zero_l (lane_sum k 0 a)))

-- ---- Levels that are made from the one below, pair by pair.

-- the first piece
first : (size : ℕ) (xs : List ℕ) → take size (drop (0 * size) xs) ≡ take size xs
first size xs = let none : 0 * size ≡ 0 = omega arith in ap (λ (n : ℕ). take size (drop n xs)) none

-- a piece of what is behind the first one
shifted : (size k : ℕ) (xs : List ℕ) → take size (drop (suc k * size) xs) ≡ take size (drop (k * size) (drop size xs))
shifted size k xs =
    let e : suc k * size ≡ size + k * size = omega arith in
    ap (λ (n : ℕ). take size (drop n xs)) e ∙ ap (take size) (sym (drop-drop (k * size) size xs))

pub pieces-same : (count size : ℕ) (xs ys : List ℕ) → ((k : ℕ) → k < count → take size (drop (k * size) xs) ≡ take size (drop (k * size) ys))
    → pieces count size xs ≡ pieces count size ys
pieces-same zero size xs ys each = refl
pieces-same (suc count) size xs ys each =
    let head : take size xs ≡ take size ys = sym (first size xs) ∙ each 0 (omega arith) ∙ first size ys in
    let tail = pieces-same count size (drop size xs) (drop size ys) (λ k l. sym (shifted size k xs) ∙ each (suc k) (omega arith) ∙ shifted size k ys) in
    (λ i. head i ∷ tail i)

-- one piece more
pub pieces-more : (count size : ℕ) (xs : List ℕ) → pieces (suc count) size xs ≡ pieces count size xs ++ (take size (drop (count * size) xs) ∷ [])
pieces-more zero size xs = ap (λ (p : List ℕ). p ∷ []) (sym (first size xs))
pieces-more (suc count) size xs =
    rw (pieces-more count size (drop size xs), shifted size count xs) refl

pub length-pieces : (count size : ℕ) (xs : List ℕ) → length (pieces count size xs) ≡ count
length-pieces zero size xs = refl
length-pieces (suc count) size xs = ap suc (length-pieces count size (drop size xs))

-- the pieces of a front that has them
pub pieces-front : (count size n : ℕ) (xs : List ℕ) → n ≡ count * size → pieces count size (take n xs) ≡ pieces count size xs
pieces-front count size n xs all =
    pieces-same count size (take n xs) xs (λ k l.
    let room : k * size + size ≤ n = piece_within k count size n l all in
    let e : k * size + (n - k * size) ≡ n = omega arith in
    cc (drop-take (k * size) (n - k * size) xs, take-take size (n - k * size) (drop (k * size) xs) (omega arith)))

-- the leaf digests, written one after the other
pub leaves-pieces : (digest : List ℕ → List ℕ) (count size : ℕ) (ys xs : List ℕ)
    → ((k : ℕ) → k < count → take 32 (drop (k * 32) ys) ≡ leaf digest (take size (drop (k * size) xs)))
    → pieces count 32 ys ≡ leaves digest count size xs
leaves-pieces digest zero size ys xs each = refl
leaves-pieces digest (suc count) size ys xs each =
    let head : take 32 ys ≡ leaf digest (take size xs) = each 0 (omega arith) ∙ ap (leaf digest) (first size xs) in
    let tail = leaves-pieces digest count size (drop 32 ys) (drop size xs)
    (λ k l. sym (shifted 32 k ys) ∙ each (suc k) (omega arith) ∙ ap (leaf digest) (shifted size k xs)) in
    (λ i. head i ∷ tail i)

-- the digests of pairs of neighbours, written one after the other
pub paired : (digest : List ℕ → List ℕ) (pairs : ℕ) (xs ys : List ℕ)
    → ((k : ℕ) → k < pairs → take 32 (drop (k * 32) ys) ≡ digest (1 ∷ take 64 (drop (k * 64) xs)))
    → pieces pairs 32 ys ≡ pair_up digest (pieces (2 * pairs) 32 xs)
paired digest zero xs ys each = refl
paired digest (suc pairs) xs ys each =
    let two : 2 * suc pairs ≡ suc (suc (2 * pairs)) = omega arith in
    let first : List ℕ = node digest (take 32 xs) (take 32 (drop 32 xs)) in
    let head : take 32 ys ≡ first = each 0 (omega arith) ∙ ap (λ (l : List ℕ). digest (1 ∷ l)) (take-add 32 32 xs) in
    let tail = paired digest pairs (drop 64 xs) (drop 32 ys)
    (λ k l. sym (shifted 32 k ys) ∙ each (suc k) (omega arith) ∙ ap (λ (l : List ℕ). digest (1 ∷ l)) (shifted 64 k xs)) in
    rw (two, drop-drop 32 32 xs) (λ i. head i ∷ tail i)

-- the empty entry behind an odd number of entries
pub pair_up-odd : (digest : List ℕ → List ℕ) (half : ℕ) (entries : List (List ℕ)) → length entries ≡ 2 * half + 1
    → pair_up digest (entries ++ (empty_entry ∷ [])) ≡ pair_up digest entries
pair_up-odd digest (suc half) (a ∷ (b ∷ more)) long = ap (λ (l : List (List ℕ)). node digest a b ∷ l) (pair_up-odd digest half more (omega arith))
pair_up-odd digest half entries long = grind arith

-- a level of odd length that was completed
pub completed : (digest : List ℕ → List ℕ) (width half at : ℕ) (old new : List ℕ) → width ≡ 2 * half + 1 → at ≡ width * 32 → new ≡ put_at at old (replicate 32 0) → at + 32 ≤ length old
    → pair_up digest (pieces (suc width) 32 new) ≡ pair_up digest (pieces width 32 old)
completed digest width half at old new odd here is room =
    let same = pieces-same width 32 new old (λ k l.
    ap (λ (l : List ℕ). take 32 (drop (k * 32) l)) is ∙ put_before at old (replicate 32 0) 32 (k * 32) (omega arith) (omega arith)) in
    let last : take 32 (drop (width * 32) new) ≡ empty_entry =
    ap (λ (n : ℕ). take 32 (drop n new)) (sym here) ∙ ap (λ (l : List ℕ). take 32 (drop at l)) is ∙ put_here at old (replicate 32 0) 32 refl (omega arith) in
    ap (pair_up digest) (pieces-more width 32 new ∙ (λ i. same i ++ (last i ∷ [])))
    ∙ pair_up-odd digest half (pieces width 32 old) (length-pieces width 32 old ∙ odd)

-- the pieces of a front that is whole
pub pieces-append : (count : ℕ) (ys rest : List ℕ) → length ys ≡ count * 32 → pieces count 32 (ys ++ rest) ≡ pieces count 32 ys
pieces-append count ys rest long =
    pieces-same count 32 (ys ++ rest) ys (λ k l.
    ap (take 32) (drop-append-le (k * 32) ys rest (omega arith))
    ∙ take-append-le 32 (drop (k * 32) ys) rest (omega (arith, length-drop (k * 32) ys)))

-- the pieces that were put in front
pub pieces-put : (count : ℕ) (old ys : List ℕ) → length ys ≡ count * 32 → pieces count 32 (put_at 0 old ys) ≡ pieces count 32 ys
pieces-put count old ys long = pieces-append count ys (drop (0 + length ys) old) long

-- the level above has the same root
pub root_up : (digest : List ℕ → List ℕ) (width : ℕ) (xs : List ℕ) → 1 < width → root_of digest (pair_up digest (pieces width 32 xs)) ≡ root_of digest (pieces width 32 xs)
root_up digest (suc (suc width)) xs more = sym (root_of-pair_up digest (take 32 xs) (take 32 (drop 32 xs)) (pieces width 32 (drop 32 (drop 32 xs))))
root_up digest width xs more = absurd (omega arith)

-- one entry is the root
pub root_one : (digest : List ℕ → List ℕ) (width : ℕ) (xs : List ℕ) → width ≡ 1 → root_of digest (pieces width 32 xs) ≡ take 32 xs
unfolding root_of
root_one digest width xs one = rw one refl
