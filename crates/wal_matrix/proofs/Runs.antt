-- Runs of bytes in a list that is made of runs of one size.
use Rattle.wal_matrix.proofs.Common.{◌≡◌, ℕ, ◌+◌, ◌-◌, ◌*◌, ◌<◌, ◌≤◌, List, [], ◌∷◌, ◌++◌, length, take, drop, refl, sym, ap, subst, ◌∙◌, arith, add-one, zero-add, length-append, length-take, length-drop, zero, suc, ⊎_elim, flat_map, range_with_len, append-nil, map-id, take_at, drop_at, drop-append-le, take-append-le, take_all, take-append-drop, drop-take, drop-drop, take-take, map-range_with_len_more, cases_lt, region, take-add}
use Rattle.std.proofs.lemmas.List.{length-take-le}
use Rattle.std.proofs.lemmas.List.Concat.{flat_map-append}
use borrow.Rule.Slice.PartMut.{put_mid}
use Rattle.wal_matrix.proofs.Places.{run_fits}

-- one more number at the end of a range
pub range_more : (a n m : ℕ) → a + n ≡ m → range_with_len a (n + 1) ≡ range_with_len a n ++ m ∷ []
range_more a n m e = simp map-id at (map-range_with_len_more (λ (x : ℕ). x) a n m e)

-- one more piece
pub pieces_more : (f : ℕ → List ℕ) (n : ℕ) → flat_map f (range_with_len 0 (n + 1)) ≡ flat_map f (range_with_len 0 n) ++ f n
pieces_more f n =
    cc (range_more 0 n n (omega arith), flat_map-append f (range_with_len 0 n) (n ∷ []), append-nil (f n))

-- the front of a list is the pieces of one size that it is made of
pub pieces_front : (f : ℕ → List ℕ) (s : ℕ) (xs : List ℕ) (n : ℕ) → ((i : ℕ) → i < n → f i ≡ take s (drop (i * s) xs))
    → flat_map f (range_with_len 0 n) ≡ take (n * s) xs
pieces_front f s xs zero same = let none : 0 * s ≡ 0 = omega arith in sym (ap (λ (k : ℕ). take k xs) none)
pieces_front f s xs (suc n) same =
    let P : ℕ → Type 0 = λ k. flat_map f (range_with_len 0 k) ≡ take (k * s) xs in
    let next : n * s + s ≡ (n + 1) * s = omega arith in
    let before = pieces_front f s xs n (λ i h. same i (omega arith)) in
    subst P (add-one n) (cc (pieces_more f n, same n (omega arith), take-add (n * s) s xs))

-- n pieces of one length
pub length-pieces : (f : ℕ → List ℕ) (s n : ℕ) → ((i : ℕ) → i < n → length (f i) ≡ s) → length (flat_map f (range_with_len 0 n)) ≡ n * s
length-pieces f s zero long = sym (omega arith)
length-pieces f s (suc n) long =
    let P : ℕ → Type 0 = λ m. length (flat_map f (range_with_len 0 m)) ≡ m * s in
    let before = length-pieces f s n (λ i h. long i (omega arith)) in
    let own = long n (omega arith) in
    let joined = length-append (flat_map f (range_with_len 0 n)) (f n) in
    subst P (add-one n) (ap length (pieces_more f n) ∙ joined ∙ omega arith)

-- a run that lies in the front of a list
pub run_in_front : (a s : ℕ) (front back : List ℕ) → a + s ≤ length front → take s (drop a (front ++ back)) ≡ take s (drop a front)
run_in_front a s front back h =
    let deep : a ≤ length front = omega arith in
    let long = length-drop a front in
    let left : s ≤ length (drop a front) = omega arith in
    rw drop-append-le (rw take-append-le refl)

-- the run that begins where a front ends, and is all that follows
pub run_at_end : (a s : ℕ) (front back : List ℕ) → length front ≡ a → length back ≡ s → take s (drop a (front ++ back)) ≡ back
run_at_end a s front back h k = ap (λ (p : List ℕ). take s p) (drop_at front back a h) ∙ take_all s back (omega arith)

-- the i-th of n pieces of one length
pub piece_at : (f : ℕ → List ℕ) (s n i : ℕ) → ((k : ℕ) → k < n → length (f k) ≡ s) → i < n → take s (drop (i * s) (flat_map f (range_with_len 0 n))) ≡ f i
piece_at f s zero i long h = absurd (omega arith)
piece_at f s (suc n) i long h =
    let P : ℕ → Type 0 = λ m. take s (drop (i * s) (flat_map f (range_with_len 0 m))) ≡ f i in
    let before = length-pieces f s n (λ k b. long k (omega arith)) in
    let split = ap (λ (p : List ℕ). take s (drop (i * s) p)) (pieces_more f n) in
    subst P (add-one n) (split ∙ ⊎_elim
    (λ below. run_in_front (i * s) s (flat_map f (range_with_len 0 n)) (f n) (omega (arith, run_fits i n s below)) ∙ piece_at f s n i (λ k b. long k (omega arith)) below)
    (λ last.
    let same : i ≡ n = omega arith in
    let e = run_at_end (i * s) s (flat_map f (range_with_len 0 n)) (f n) (before ∙ ap (λ m. m * s) (sym same)) (long n (omega arith)) in
    e ∙ ap f (sym same))
    (cases_lt i n))

-- a run within a list has its bytes
pub region_long : (s i : ℕ) (xs : List ℕ) → s * i + s ≤ length xs → length (take s (drop (s * i) xs)) ≡ s
region_long s i xs h = omega (arith, length-take s (drop (s * i) xs), length-drop (s * i) xs)

-- a run keeps what it held where a later one is written
pub region-put_other : (s i place at k : ℕ) (xs ys : List ℕ) → i < place → at ≡ s * place → at ≤ length xs
    → region s (put_mid at k xs ys) i ≡ region s xs i
region-put_other s i place at k xs ys h e inside =
    let front = take at xs in
    let long : length front ≡ at = length-take-le at xs inside in
    let early : s * i + s ≤ length front = omega (arith, run_fits i place s h) in
    let written = run_in_front (s * i) s front (ys ++ drop k (drop at xs)) early in
    cc (written, run_in_front (s * i) s front (drop at xs) early, take-append-drop at xs)

-- and one that is written holds what was written
pub region-put_same : (s place at k : ℕ) (xs ys : List ℕ) → at ≡ s * place → s * place + s ≤ length xs → length ys ≡ s
    → region s (put_mid at k xs ys) place ≡ ys
region-put_same s place at k xs ys e inside long =
    let front = take at xs in
    let before : length front ≡ s * place = length-take-le at xs (omega arith) ∙ e in
    let rest = drop k (drop at xs) in
    ap (λ (zs : List ℕ). take s zs) (drop_at front (ys ++ rest) (s * place) before) ∙ take_at ys rest s long

-- a run of a run
pub part_of_part : (s a b d : ℕ) (xs : List ℕ) → a + s ≤ b → take s (drop a (take b (drop d xs))) ≡ take s (drop (d + a) xs)
part_of_part s a b d xs h =
    let split : b ≡ a + (b - a) = omega arith in
    let few : s ≤ b - a = omega arith in
    rw (split, drop-take a (b - a) (drop d xs), take-take s (b - a) (drop a (drop d xs)) few, drop-drop a d xs)

-- a run of the front of a list
pub run_of_front : (s a m : ℕ) (xs : List ℕ) → a + s ≤ m → take s (drop a (take m xs)) ≡ take s (drop a xs)
run_of_front s a m xs h = part_of_part s a m 0 xs h ∙ ap (λ (k : ℕ). take s (drop k xs)) (zero-add a)

-- runs of lists that have the same front
pub run_kept : (s a m : ℕ) (xs ys : List ℕ) → a + s ≤ m → take m xs ≡ take m ys
    → take s (drop a xs) ≡ take s (drop a ys)
run_kept s a m xs ys h same = sym (run_of_front s a m xs h) ∙ ap (λ (zs : List ℕ). take s (drop a zs)) same
    ∙ run_of_front s a m ys h
