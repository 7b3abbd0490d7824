-- What a part more, and slivers less, of one identifier do to the pages of all holdings.
use Rattle.wal_served.proofs.Common.{◌≡◌, ℕ, ◌+◌, ◌≤◌, Bool, true, cond, T, List, [], ◌∷◌, length, map, Option, Some, None, unwrap_or, refl, ap, ◌∙◌, arith, is_some, sum_by, eq_by_cmp, is_eq, match_ordering, AllByRecursion, BlobId, Part, id_cmp, Parts, no_parts, part_of, with_part, part_cost, cost_of, pages_for, Contents, parts_at, part_at, with_bytes, without_part, cost, without_slivers, cost_with}
use Rattle.std.specs.Option.{option_map}
use Rattle.std.specs.declared.cmp.Ordering.TheVariants.{Less, Equal, Greater}
use Rattle.std.specs.List.Sorted.{IsStrictlySortedBy}
use Rattle.std.specs.Cmp.{tied_itself}
use Rattle.std.specs.Map.{keys_of, lookup}
use Rattle.std.specs.BTreeMap.{is_at, insert_entry}
use Rattle.std.specs.FinMap as fin
use Rattle.std.specs.FinMap.Entries.{find, put, by_order, is_sorted, below_all}
use Rattle.std.proofs.lemmas.Map.Entries.{sum_by-insert_entry}
use Rattle.wal_store.specs.Entries.{Entries}
use Rattle.wal_store.proofs.IdentifierLaws.{ids_total, exact_ids}

-- ---- sorted entries

below_back : (k : BlobId) (es : Entries) → T (below_all id_cmp k es) → AllByRecursion (λ (y : BlobId). id_cmp k y ≡ Less) (keys_of es)
below_back k [] h = tt
below_back k (e ∷ es) h = grind (arith, below_back k es)

sorted_back : (es : Entries) → T (is_sorted id_cmp es) → IsStrictlySortedBy id_cmp (keys_of es)
unfolding IsStrictlySortedBy
sorted_back [] h = tt
sorted_back (e ∷ es) h = grind (arith, below_back e.0 es, sorted_back es)

put_is : (k : BlobId) (v : Parts) (es : Entries) → put id_cmp k v es ≡ insert_entry id_cmp es k v
put_is k v [] = refl
put_is k v (e ∷ es) =
    elim (id_cmp k e.0) as (λ o. by_order o ((k, v) ∷ e ∷ es) ((e.0, v) ∷ es) (e ∷ put id_cmp k v es) ≡ match_ordering o ((k, v) ∷ e ∷ es) ((e.0, v) ∷ es) (e ∷ insert_entry id_cmp es k v)) [
      | Less ↦ refl
      | Equal ↦ refl
      | Greater ↦ ap (λ (l : Entries). e ∷ l) (put_is k v es)
    ]

find_is : (q : BlobId) (es : Entries) → find id_cmp q es ≡ lookup (is_at (id_cmp q)) es
find_is q [] = refl
find_is q (e ∷ es) = ap (cond (is_eq (id_cmp q e.0)) (Some e.1)) (find_is q es)

-- ---- pages

abbrev pages_in : Entries → ℕ
pages_in es = sum_by cost_of (map (λ e. e.1) es)

abbrev found_cost : Option Parts → ℕ
found_cost o = unwrap_or (option_map cost_of o) 0

tied : (id : BlobId) → eq_by_cmp id_cmp id id ≡ true
tied id = ap is_eq (tied_itself ids_total id)

insert_cost : (c : Contents) (id : BlobId) (p : Parts) → cost (fin.insert c id p) + found_cost (fin.get c id) ≡ cost c + cost_of p
insert_cost c id p =
    let es = fin.entries c in
    let made : fin.entries (fin.insert c id p) ≡ insert_entry id_cmp es id p = fin.entries-insert ids_total c id p ∙ put_is id p es in
    let new : cost (fin.insert c id p) ≡ pages_in (insert_entry id_cmp es id p) = ap pages_in made in
    let found : found_cost (fin.get c id) ≡ found_cost (lookup (is_at (id_cmp id)) es) = ap found_cost (fin.get-entries c id ∙ find_is id es) in
    omega (arith, sum_by-insert_entry cost_of ids_total es id p (sorted_back es (fin.entries_sorted c)), new, found)

-- where a holding goes, its pages go: putting any parts there comes to the same before and after
twice : (b : Bool) (p : Parts) (o : Option Parts) → cond b (Some p) (cond b None o) ≡ cond b (Some p) o
twice b p o = grind arith

put_again : (c : Contents) (id : BlobId) (p : Parts) → fin.insert (fin.remove c id) id p ≡ fin.insert c id p
put_again c id p = fin.same_map ids_total exact_ids _ _ (λ q.
    rw (fin.get-insert ids_total (fin.remove c id) id p q, fin.get-remove ids_total c id q, fin.get-insert ids_total c id p q)
    (twice (eq_by_cmp id_cmp q id) p (fin.get c q)))

remove_cost : (c : Contents) (id : BlobId) → cost (fin.remove c id) + found_cost (fin.get c id) ≡ cost c
remove_cost c id =
    let d = fin.remove c id in
    let same : cost (fin.insert d id no_parts) ≡ cost (fin.insert c id no_parts) = ap cost (put_again c id no_parts) in
    let none : found_cost (fin.get d id) ≡ 0 = ap found_cost (fin.get-remove ids_total c id id ∙ ap (λ (b : Bool). cond b None (fin.get c id)) (tied id)) in
    omega (arith, insert_cost c id no_parts, insert_cost d id no_parts, same, none)

-- one part more, one less
swapped : (p : Parts) (part : Part) (bytes : Option (List ℕ)) → cost_of (with_part p part bytes) + part_cost (part_of p part) ≡ cost_of p + part_cost bytes
swapped p Part.Metadata bytes = omega arith
swapped p part bytes = omega arith

abbrev one_unless : Option Parts → ℕ
one_unless o = cond (is_some o) 0 1

-- the holding that is there, and the page that one would cost
there_most : (o : Option Parts) → found_cost o + one_unless o ≡ cost_of (unwrap_or o no_parts)
there_most o = grind arith

has_now : (c : Contents) (id : BlobId) (p : Parts) → one_unless (fin.get (fin.insert c id p) id) ≡ 0
has_now c id p = ap one_unless (fin.get-insert ids_total c id p id) ∙ ap (λ (b : Bool). one_unless (cond b (Some p) (fin.get c id))) (tied id)

-- any parts in place of those that are held cost as much more as they cost more
placed : (c : Contents) (id : BlobId) (p : Parts) → cost_with (fin.insert c id p) id + cost_of (parts_at c id) ≡ cost_with c id + cost_of p
placed c id p = omega (arith, insert_cost c id p, there_most (fin.get c id), has_now c id p)

-- a part that is stored
pub stored_cost : (c : Contents) (id : BlobId) (part : Part) (bytes : List ℕ) → part_at c id part ≡ None → cost_with (with_bytes c id part bytes) id ≡ cost_with c id + pages_for (length bytes)
stored_cost c id part bytes none =
    let nothing : part_cost (part_at c id part) ≡ 0 = ap part_cost none in
    omega (arith, placed c id (with_part (parts_at c id) part (Some bytes)), swapped (parts_at c id) part (Some bytes), nothing)

-- a part that goes
gone_cost : (c : Contents) (id : BlobId) (part : Part) → cost_with (without_part c id part) id ≤ cost_with c id
gone_cost c id part =
    let p = with_part (parts_at c id) part None in
    grind (arith, remove_cost c id, placed c id p, swapped (parts_at c id) part None)

pub forgotten_cost : (c : Contents) (id : BlobId) → cost_with (without_slivers c id) id ≤ cost_with c id
forgotten_cost c id = omega (arith, gone_cost c id Part.Primary, gone_cost (without_part c id Part.Primary) id Part.Secondary)
