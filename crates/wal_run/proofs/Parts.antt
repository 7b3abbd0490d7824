-- Texts that are written in parts.
use Rattle.wal_run.proofs.Common.{◌≡◌, ℕ, ◌+◌, ◌≤◌, List, ◌++◌, length, length-append, take, Option, Result, Ok, Err, OnOk, OnErr, refl, arith, take-append-add, take-append-le, Appends-trans, Appends, AppendsPart}

-- a prefix of the first of two texts is one of both
pub part_before : (a b : Option (List ℕ)) (first second : List ℕ) → AppendsPart a b first → AppendsPart a b (first ++ second)
part_before a b first second p =
    let within : p.0 ≤ length first = omega (arith, p.1) in
    (p.0, omega (arith, p.1, length-append first second), rw (take-append-le p.0 first second within) p.2)

-- after the first text, a prefix of the second
pub part_after : (a b c : Option (List ℕ)) (first second : List ℕ) → Appends a b first → AppendsPart b c second → AppendsPart a c (first ++ second)
part_after a b c first second whole p = (
  length first + p.0,
  omega (arith, p.1, length-append first second),
  rw (take-append-add first second p.0) (Appends-trans a b c first (take p.0 second) whole p.2),
)

-- a failure within the first of two texts
pub failed_before : {T E : Type 0} (r : Result T E) (a b : Option (List ℕ)) (first second whole : List ℕ) → whole ≡ first ++ second
    → AppendsPart a b first → OnErr r (AppendsPart a b whole)
failed_before (Ok x) a b first second whole parts part = tt
failed_before (Err e) a b first second whole parts part = rw parts (part_before a b first second part)

-- a failure within the second, after the first
pub failed_after : {T E : Type 0} (r : Result T E) (a b c : Option (List ℕ)) (first second whole : List ℕ) → whole ≡ first ++ second → Appends a b first
    → OnErr r (AppendsPart b c second) → OnErr r (AppendsPart a c whole)
failed_after (Ok x) a b c first second whole parts put part = tt
failed_after (Err e) a b c first second whole parts put part = rw parts (part_after a b c first second put part)

-- both texts were written
pub put_both : {T E : Type 0} (r : Result T E) (a b c : Option (List ℕ)) (first second whole : List ℕ) → whole ≡ first ++ second → Appends a b first
    → OnOk r (Appends b c second) → OnOk r (Appends a c whole)
put_both (Ok x) a b c first second whole parts put more = rw parts (Appends-trans a b c first second put more)
put_both (Err e) a b c first second whole parts put more = tt

-- a failure within a text that stands between two others, the first of which was written
pub failed_within : {T E : Type 0} (r : Result T E) (a b c : Option (List ℕ)) (before piece after whole : List ℕ) → whole ≡ before ++ (piece ++ after)
    → Appends a b before → AppendsPart b c piece → OnErr r (AppendsPart a c whole)
failed_within r a b c before piece after whole parts put part =
    failed_after r a b c before (piece ++ after) whole parts put (failed_before r b c piece after (piece ++ after) refl part)
