-- The places of the identifiers, after one went.
use Rattle.wal_store.proofs.Common.{◌≡◌, ℕ, zero, suc, ◌+◌, ◌<◌, ◌≤◌, Bool, true, false, T, ◌&&◌, Some, List, [], ◌∷◌, slice_get, refl, sym, ap, ◌∙◌, arith, Ordering, Less, is_lt, AllByRecursion, IsStrictlySortedBy, keys_of, remove_entry, is_at, is_sorted, below_all, BlobId, id_cmp, Parts, Contents, Entries}
use Rattle.std.specs.List.{remove}
use Rattle.std.specs.FinMap as fin
use Rattle.wal_store.proofs.Edits.{map-remove}
use Rattle.wal_store.proofs.EntriesLaws.{entries_view, remove_view, remove_at}
use Rattle.wal_store.proofs.IdentifierLaws.{ids_total, exact_ids}
use Rattle.wal_store.proofs.TableLaws.{sorted-remove}

-- both sides of a true `&&` are true
pub both_of : (a b : Bool) → T (a && b) → T a × T b
both_of true b t = (tt, t)
both_of false b t = absurd t

-- an ordering that `is_lt` is Less
pub less_of : (o : Ordering) → T (is_lt o) → o ≡ Less
less_of Less t = refl
less_of o t = absurd t

below_of : (k : BlobId) (es : Entries) → T (below_all id_cmp k es) → AllByRecursion (λ y. id_cmp k y ≡ Less) (keys_of es)
below_of k [] t = tt
below_of k (e ∷ es) t =
    let parts = both_of (is_lt (id_cmp k e.0)) (below_all id_cmp k es) t in
    (less_of (id_cmp k e.0) parts.0, below_of k es parts.1)

-- entries that are tested to be sorted have keys in strict order
pub sorted_of : (es : Entries) → T (is_sorted id_cmp es) → IsStrictlySortedBy id_cmp (keys_of es)
unfolding IsStrictlySortedBy
sorted_of [] t = tt
sorted_of (e ∷ es) t =
    let parts = both_of (below_all id_cmp e.0 es) (is_sorted id_cmp es) t in
    (below_of e.0 es parts.0, sorted_of es parts.1)

entry_of : (es : Entries) (i : ℕ) (id : BlobId) → slice_get (keys_of es) i ≡ Some id → (p : Parts) × (slice_get es i ≡ Some (id, p))
entry_of [] i id at = cc
entry_of (e ∷ es) zero id at = let key : e.0 ≡ id = cc in (e.1, ap (λ (x : BlobId). Some (x, e.1)) key)
entry_of (e ∷ es) (suc i) id at = entry_of es i id at

pub slice_get-remove_below : {X : Type 0} (xs : List X) (i j : ℕ) → j < i → slice_get (remove xs i) j ≡ slice_get xs j
slice_get-remove_below (x ∷ xs) (suc i) (suc j) below = slice_get-remove_below xs i j (omega arith)
slice_get-remove_below [] (suc i) j below = refl
slice_get-remove_below xs i j below = grind arith

moved_down : {X : Type 0} (xs : List X) (i j up : ℕ) → i ≤ j → up ≡ j + 1 → slice_get (remove xs i) j ≡ slice_get xs up
moved_down (x ∷ xs) (suc i) (suc j) (suc up) above next = moved_down xs i j up (omega arith) (omega arith)
moved_down (x ∷ xs) zero j up above next = let is : up ≡ suc j = omega arith in cc
moved_down [] (suc i) j up above next = refl
moved_down xs i j up above next = grind arith

-- to remove an identifier takes its place out of the keys
pub closes_place : (m : Contents) (id : BlobId) (i : ℕ) → slice_get (fin.keys m) i ≡ Some id → fin.keys (fin.remove m id) ≡ remove (fin.keys m) i
closes_place m id i at =
    let es : Entries = fin.entries m in
    let left : Entries = remove_entry (is_at (id_cmp id)) es in
    let sorted = sorted_of es (fin.entries_sorted m) in
    let whole : fin.from_sorted {R = id_cmp} es ≡ m = fin.same_entries_map _ _ (entries_view id_cmp es sorted) in
    let e = entry_of es i id at in
    let keys : keys_of left ≡ remove (keys_of es) i = ap keys_of (sym (remove_at id_cmp ids_total es i id e.0 sorted e.1)) ∙ map-remove (λ (e : BlobId × Parts). e.0) es i in
    let after : IsStrictlySortedBy id_cmp (keys_of left) = rw keys (sorted-remove (keys_of es) i sorted) in
    ap (λ (n : Contents). fin.keys (fin.remove n id)) (sym whole)
    ∙ ap (λ (n : Contents). fin.keys n) (sym (remove_view id_cmp ids_total exact_ids es id sorted after))
    ∙ ap keys_of (entries_view id_cmp left after) ∙ keys

-- the keys before the one that is removed keep their places
pub keeps_below : (m : Contents) (id : BlobId) (i j : ℕ) → slice_get (fin.keys m) i ≡ Some id → j < i → slice_get (fin.keys (fin.remove m id)) j ≡ slice_get (fin.keys m) j
keeps_below m id i j at below = ap (λ ks. slice_get ks j) (closes_place m id i at) ∙ slice_get-remove_below (fin.keys m) i j below

-- the keys behind the one that is removed move down by one place
pub moves_down : (m : Contents) (id : BlobId) (i j : ℕ) → slice_get (fin.keys m) i ≡ Some id → i ≤ j → slice_get (fin.keys (fin.remove m id)) j ≡ slice_get (fin.keys m) (j + 1)
moves_down m id i j at above = ap (λ ks. slice_get ks j) (closes_place m id i at) ∙ moved_down (fin.keys m) i j (j + 1) above refl
