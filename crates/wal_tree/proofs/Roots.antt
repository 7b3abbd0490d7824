-- Facts on the root over a list of entries that do not depend on how it is computed.
use Rattle.wal_tree.proofs.Common.{◌≡◌, ℕ, suc, ◌/◌, ◌<◌, ◌≤◌, List, [], ◌∷◌, ◌++◌, length, take, refl, ap, sym, ◌∙◌, arith, length-append, add-one, add-div_left, div-eq_of_lt, take-append_seam, drop-append_seam, pair_up, pieces, root_of, root_within, ◌+◌, ◌*◌, ◌^◌, Option, div-le_of_le-mul, empty_entry, node, climb, pushed, weight}
use Rattle.std.specs.Prelude.{Some, None}

-- a level has no more entries than the one below
pub length-pair_up : (digest : List ℕ → List ℕ) (entries : List (List ℕ)) → length (pair_up digest entries) ≤ length entries
length-pair_up digest (a ∷ (b ∷ more)) = omega (arith, length-pair_up digest more)
length-pair_up digest _ = omega arith

-- more levels than entries change nothing
pub root_within-enough : (digest : List ℕ → List ℕ) (m n : ℕ) (entries : List (List ℕ)) → length entries ≤ m → length entries ≤ n → root_within digest m entries ≡ root_within digest n entries
root_within-enough digest (suc m) (suc n) (a ∷ (b ∷ more)) hm hn =
    root_within-enough digest m n (pair_up digest (a ∷ (b ∷ more))) (omega (arith, length-pair_up digest more)) (omega (arith, length-pair_up digest more))
root_within-enough digest m n entries hm hn = grind arith

-- the root over two entries or more is that over the level above
pub root_of-pair_up : (digest : List ℕ → List ℕ) (a b : List ℕ) (more : List (List ℕ)) → root_of digest (a ∷ (b ∷ more)) ≡ root_of digest (pair_up digest (a ∷ (b ∷ more)))
unfolding root_of
root_of-pair_up digest a b more =
    root_within-enough digest (suc (length more)) (length (pair_up digest (a ∷ (b ∷ more)))) (pair_up digest (a ∷ (b ∷ more))) (omega (arith, length-pair_up digest more)) (omega arith)

-- a text that begins with a piece has one piece more than the rest
pub count-cons : (size : ℕ) (piece rest whole : List ℕ) → 0 < size → length piece ≡ size → whole ≡ piece ++ rest → length whole / size ≡ suc (length rest / size)
count-cons size piece rest whole positive long is =
    rw (is, length-append piece rest, long, add-div_left (length rest) positive, add-one (length rest / size)) refl

-- its pieces are that one and those of the rest
pub pieces-cons : (size : ℕ) (piece rest whole : List ℕ) → 0 < size → length piece ≡ size → whole ≡ piece ++ rest →
    pieces (length whole / size) size whole ≡ piece ∷ pieces (length rest / size) size rest
pieces-cons size piece rest whole positive long is =
    rw (count-cons size piece rest whole positive long is)
    (cc (take-append_seam piece rest, drop-append_seam piece rest))

-- less than a piece has none
pub pieces-short : (size : ℕ) (rest : List ℕ) → length rest < size → pieces (length rest / size) size rest ≡ []
pieces-short size rest short = ap (λ n. pieces n size rest) (div-eq_of_lt short)

-- ---- The pass over the leaves: pushing an entry keeps the root, and the stack stays within ten levels.

-- below an entry in the stack, an empty place only pairs what comes
climb-past : (digest : List ℕ → List ℕ) (v : Option (List ℕ)) (more : List (Option (List ℕ))) (a : List ℕ) (coming : List (List ℕ)) →
    climb digest (None ∷ pushed digest (v ∷ more) a) coming ≡ climb digest (pushed digest (v ∷ more) a) (pair_up digest coming)
climb-past digest v more a coming = grind arith

-- the next entry may be pushed: the root stays
pub climb-pushed : (digest : List ℕ → List ℕ) (stack : List (Option (List ℕ))) (a : List ℕ) (coming : List (List ℕ)) →
    climb digest stack (a ∷ coming) ≡ climb digest (pushed digest stack a) coming
climb-pushed digest (Some b ∷ []) a coming = root_of-pair_up digest b a coming
climb-pushed digest (Some b ∷ (v ∷ more)) a coming =
    climb-pushed digest (v ∷ more) (node digest b a) (pair_up digest coming) ∙ sym (climb-past digest v more (node digest b a) coming)
climb-pushed digest stack a coming = grind arith

-- one more leaf
pub weight-pushed : (digest : List ℕ → List ℕ) (stack : List (Option (List ℕ))) (a : List ℕ) → weight (pushed digest stack a) ≡ weight stack + 1
weight-pushed digest (Some b ∷ more) a = omega (arith, weight-pushed digest more (node digest b a))
weight-pushed digest _ a = omega arith

-- a stack within n levels that stands for fewer than 2 ^ n - 1 leaves has room for one more
pub length-pushed : (digest : List ℕ → List ℕ) (n : ℕ) (stack : List (Option (List ℕ))) (a : List ℕ) →
    length stack ≤ n → weight stack + 1 < 2 ^ n → length (pushed digest stack a) ≤ n
length-pushed digest (suc n) (Some b ∷ more) a long light =
    omega (arith, length-pushed digest n more (node digest b a) (omega arith) (omega arith))
length-pushed digest n _ a long light = omega arith

-- with no place in use there is no leaf
pub climb-none : (digest : List ℕ → List ℕ) (height : ℕ) (levels : List (Option (List ℕ))) → height ≡ 0 →
    empty_entry ≡ climb digest (take height levels) []
unfolding root_of
climb-none digest height levels none = rw none refl

-- one turn of the pass: the next entry is pushed, and the root stays
pub pass-step : (digest : List ℕ → List ℕ) (entry : List ℕ) (before after : List (List ℕ)) (old new : List (Option (List ℕ))) →
    before ≡ entry ∷ after → new ≡ pushed digest old entry → climb digest old before ≡ climb digest new after
pass-step digest entry before after old new is new_is =
    rw (is, new_is) (climb-pushed digest old entry after)

-- a content within 1000 pieces, of which this one is still to come, leaves room for it
pub pass-room : (digest : List ℕ → List ℕ) (total size : ℕ) (piece rest whole : List ℕ) (stack : List (Option (List ℕ))) (entry : List ℕ) →
    0 < size → total ≤ 1000 * size → length piece ≡ size → whole ≡ piece ++ rest → weight stack + length whole / size ≡ total / size →
    length stack ≤ 10 → length (pushed digest stack entry) ≤ 10
pass-room digest total size piece rest whole stack entry positive few long is seen within =
    let most : total / size ≤ 1000 = div-le_of_le-mul size (omega arith) in
    length-pushed digest 10 stack entry within (omega (arith, count-cons size piece rest whole positive long is))
