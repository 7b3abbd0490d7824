-- Bytes that are put in place of others, and what then stands where.
use Rattle.wal_lanes.proofs.Common.{◌≡◌, ℕ, ◌+◌, ◌-◌, ◌*◌, ◌<◌, ◌≤◌, List, [], ◌++◌, length, take, drop, sym, ap, inl, inr, ◌∙◌, arith, length-append, length-drop, cases_lt, append_assoc, drop-append-le, drop-drop, drop-take, drop_at, length-take-le, take-append-drop, take-append-le, take-take, take_at, mul-le-mul_right, put_at, zero-add}

-- nothing is put
pub put_none : (at : ℕ) (old : List ℕ) → old ≡ put_at at old []
put_none at old = sym (ap (λ (n : ℕ). take at old ++ drop n old) (omega arith) ∙ take-append-drop at old)

-- bytes are put behind those that were put before
pub put_put : (at n : ℕ) (old new xs ys : List ℕ) → new ≡ put_at at old xs → n ≡ at + length xs → at + (length xs + length ys) ≤ length old
    → put_at n new ys ≡ put_at at old (xs ++ ys)
put_put at n old new xs ys is next room =
    let rest = drop (at + length xs) old in
    let long : length (take at old ++ xs) ≡ n =
    omega (arith, length-append (take at old) xs, length-take-le at old (omega arith)) in
    let inner : at + length xs + length ys ≡ at + length (xs ++ ys) = omega (arith, length-append xs ys) in
    rw (
      is,
      ← append_assoc (take at old) xs rest,
      ← drop-drop (length ys) n ((take at old ++ xs) ++ rest),
      take_at (take at old ++ xs) rest n long,
      drop_at (take at old ++ xs) rest n long,
      drop-drop (length ys) (at + length xs) old,
      inner,
    ) (simp append_assoc)

-- what lies before is left alone
pub put_before : (at : ℕ) (old ys : List ℕ) (n p : ℕ) → p + n ≤ at → at ≤ length old → take n (drop p (put_at at old ys)) ≡ take n (drop p old)
put_before at old ys n p before within =
    let rest = ys ++ drop (at + length ys) old in
    let long = length-take-le at old within in
    let e : p + (at - p) ≡ at = omega arith in
    rw (
      drop-append-le p (take at old) rest (omega (arith, long)),
      take-append-le n (drop p (take at old)) rest (omega (arith, long, length-drop p (take at old))),
      ← e,
      drop-take p (at - p) old,
      take-take n (at - p) (drop p old) (omega arith),
    )

-- the bytes stand where they were put
pub put_here : (at : ℕ) (old ys : List ℕ) (n : ℕ) → length ys ≡ n → at ≤ length old → take n (drop at (put_at at old ys)) ≡ ys
put_here at old ys n long within =
    rw (drop_at (take at old) _ at (length-take-le at old within), take_at ys _ n long)

pub length-put_at : (at : ℕ) (old ys : List ℕ) → at + length ys ≤ length old → length (put_at at old ys) ≡ length old
length-put_at at old ys room =
    omega (
      arith,
      length-append (take at old) (ys ++ drop (at + length ys) old),
      length-append ys (drop (at + length ys) old),
      length-take-le at old (omega arith),
      length-drop (at + length ys) old,
    )

-- a part before the one that is put is left alone
pub part_before : (w j i at : ℕ) (old new ys : List ℕ) → j < i → at ≡ i * w → new ≡ put_at at old ys → at ≤ length old → take w (drop (j * w) new) ≡ take w (drop (j * w) old)
part_before w j i at old new ys less place is within =
    let bound : (j + 1) * w ≤ i * w = mul-le-mul_right w (omega arith) in
    rw is (put_before at old ys w (j * w) (omega arith) within)

-- the parts from the place `first` on, up to the one that is put
pub parts_put_from : (w first : ℕ) (f : ℕ → List ℕ) (old new ys : List ℕ) (i at : ℕ) → at ≡ (first + i) * w → new ≡ put_at at old ys → ys ≡ f i → length ys ≡ w → at ≤ length old
    → ((j : ℕ) → j < i → take w (drop ((first + j) * w) old) ≡ f j) → (j : ℕ) → j < i + 1 → take w (drop ((first + j) * w) new) ≡ f j
parts_put_from w first f old new ys i at place is part long within before j l =
    elim (cases_lt j i) [
      | inl less ↦ part_before w (first + j) (first + i) at old new ys (omega arith) place is within ∙ before j less
      | inr more ↦ let here : j ≡ i = omega arith in rw (is, here, ← place) (put_here at old ys w long within ∙ part)
    ]

-- the parts of w bytes up to the one that is put
pub parts_put : (w : ℕ) (f : ℕ → List ℕ) (old new ys : List ℕ) (i at : ℕ) → at ≡ i * w → new ≡ put_at at old ys → ys ≡ f i → length ys ≡ w → at ≤ length old
    → ((j : ℕ) → j < i → take w (drop (j * w) old) ≡ f j) → (j : ℕ) → j < i + 1 → take w (drop (j * w) new) ≡ f j
parts_put w f old new ys i at place is part long within before j l =
    let put = parts_put_from w 0 f old new ys i at (rw zero-add place) is part long within (λ k less. rw zero-add (before k less)) j l in
    rw zero-add at put

-- the pieces from k on, w of them, lie within all of them
pub pieces_within : (k w count size n : ℕ) → k + w ≤ count → n ≡ count * size → (k + w) * size ≤ n
pieces_within k w count size n few all = omega (arith, all, mul-le-mul_right {m = k + w} {n = count} size few)

-- one of these pieces lies within them
pub piece_within : (k w size n : ℕ) → k < w → n ≡ w * size → k * size + size ≤ n
piece_within k w size n few all =
    omega (arith, pieces_within k 1 w size n (omega arith) all)

-- a part of a part
pub part_of_part : (a b n m : ℕ) (xs ys : List ℕ) → ys ≡ take m (drop a xs) → b + n ≤ m → take n (drop b ys) ≡ take n (drop (a + b) xs)
part_of_part a b n m xs ys is room =
    let e : b + (m - b) ≡ m = omega arith in
    rw (is, ← e, drop-take b (m - b) (drop a xs), take-take n (m - b) _ (omega arith), drop-drop b a xs)
