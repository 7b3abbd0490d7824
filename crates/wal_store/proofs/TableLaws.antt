-- A table of rows that owns its pages, changed at a place.
use Rattle.wal_store.proofs.Common.{◌≡◌, ℕ, zero, suc, ◌+◌, ◌<◌, Option, Some, None, List, [], ◌∷◌, length, take, slice_get, slice_set, slice_index, refl, ap, ◌∙◌, arith, option_map, ◌≤◌, true, map, count_by, sym, Less, Greater, eq-eqb, lt-ltb, le-leb, AllByRecursion, sum_by, keys_of, ordering_reverse, IsStrictlySortedBy, is_sum_by, slice_get-map, some_pair_parts, nat_tests, map-set, sum_by-cons, bytes_in, is_free, Part, Slot, Row, part_of, with_part, pages_for, Parts, no_parts, part_cost, cost_of, Linked, links, uses, joined, taken_at, Adds, Frees, slot_of, with_slot, slot_links, part_in, parts_of, ids_of, entries_of, row_uses, rows_use, are_sized, IsSized, IsHome, no_slots, slot_cost, content, is_sized, Owns, IsGap, BlobId, id_cmp, Entries, cost_in, all_pages}
use Rattle.std.specs.List.{insert, remove}
use Rattle.wal_shape.specs.Shape.{most_bytes}
use Rattle.wal_store.proofs.ChainLaws.{uses_self, links_same, joined_same, taken_at-le, adds_apart}
use Rattle.wal_store.proofs.StockLaws.{part_swap}
use Rattle.wal_store.proofs.Edits.{map-insert, map-remove, sum-insert, sum-set, sum-remove, sum-within, all-at, all-change, all-insert, all-remove}
use Rattle.wal_store.proofs.IdentifierLaws.{ids_total}

-- a page is seen alike in two tables
pub record Alike (old new : Linked) (k : ℕ) : Type 0 where
  pub state : slice_get new.states k ≡ slice_get old.states k
  pub link : slice_index new.next k ≡ slice_index old.next k

slot_same : (old new : Linked) (slot : Option Slot)
    → ((k : ℕ) → 0 < uses k (slot_links old.next slot) → Alike old new k)
    → (slot_links new.next slot ≡ slot_links old.next slot) × (part_in new slot ≡ part_in old slot)
slot_same old new None same = (refl, refl)
slot_same old new (Some slot) same =
    let ks : List ℕ = links old.next (pages_for slot.size) slot.first in
    let chain = links_same old.next new.next (pages_for slot.size) slot.first (λ k used. (same k used).link) in
    (chain, cc (chain, joined_same old.states new.states ks (λ k used. (same k used).state)))

-- a row whose pages stay uses them still, and has its parts
row_same : (old new : Linked) (row : Row) → ((k : ℕ) → 0 < row_uses old.next k row → Alike old new k)
    → ((k : ℕ) → row_uses new.next k row ≡ row_uses old.next k row) × (parts_of new row ≡ parts_of old row)
row_same old new row same =
    let m = slot_same old new row.metadata (λ j used. same j (omega arith)) in
    let p = slot_same old new row.primary (λ j used. same j (omega arith)) in
    let s = slot_same old new row.secondary (λ j used. same j (omega arith)) in
    let f = slot_same old new row.proof (λ j used. same j (omega arith)) in
    (λ k. cc (m.0, p.0, s.0, f.0), cc (m.1, p.1, s.1, f.1))

pub record RowsSame (old new : Linked) (rows : List Row) : Type 0 where
  pub uses : (k : ℕ) → rows_use new.next k rows ≡ rows_use old.next k rows
  pub entries : entries_of new rows ≡ entries_of old rows
  pub sized : AllByRecursion (IsSized old) rows → AllByRecursion (IsSized new) rows
  pub homes : AllByRecursion (IsHome old) rows → AllByRecursion (IsHome new) rows

pub rows_same : (old new : Linked) (rows : List Row) → ((k : ℕ) → 0 < rows_use old.next k rows → Alike old new k) → RowsSame old new rows
rows_same old new [] same = record { uses = λ k. refl; entries = refl; sized = λ all. tt; homes = λ all. tt }
rows_same old new (r ∷ rs) same =
    let here : (k : ℕ) → 0 < row_uses old.next k r → Alike old new k = λ k used. same k (omega arith) in
    let rest = rows_same old new rs (λ k used. same k (omega arith)) in
    let row = row_same old new r here in
    record {
      uses = λ k. omega (arith, row.0 k, rest.uses k);
      entries = cc (row.1, rest.entries);
      sized = λ all. (ap (are_sized r) row.1 ∙ all.0, rest.sized all.1);
      homes = λ all. (ap (λ s. take (length r.id.0) (bytes_in s)) (here r.home (omega (arith, uses_self r.home []))).state ∙ all.0, rest.homes all.1);
    }

-- the page of a holding, after a change of a part
pub home_with : (l : Linked) (r : Row) (part : Part) (slot : Option Slot) → IsHome l r → IsHome l (with_slot r part slot)
home_with l r part slot home = grind arith

pub keys_of-entries_of : (l : Linked) (rows : List Row) → keys_of (entries_of l rows) ≡ ids_of rows
keys_of-entries_of l [] = refl
keys_of-entries_of l (r ∷ rs) = ap (λ ks. r.id ∷ ks) (keys_of-entries_of l rs)

pub slice_get-entries_of : (l : Linked) (rows : List Row) (i : ℕ) (r : Row) → slice_get rows i ≡ Some r → slice_get (entries_of l rows) i ≡ Some (r.id, parts_of l r)
slice_get-entries_of l rows i r found = slice_get-map (λ (q : Row). (q.id, parts_of l q)) rows i ∙ ap (option_map (λ (q : Row). (q.id, parts_of l q))) found

pub set-ids_of : (rows : List Row) (i : ℕ) (r q : Row) → slice_get rows i ≡ Some q → r.id ≡ q.id → ids_of (slice_set rows i r) ≡ ids_of rows
set-ids_of (p ∷ rs) (suc i) r q found same = ap (λ ks. p.id ∷ ks) (set-ids_of rs i r q found same)
set-ids_of rows i r q found same = cc

-- the pages of all rows as a sum
pub rows_sum : (N : List ℕ) (k : ℕ) (rows : List Row) → rows_use N k rows ≡ sum_by (row_uses N k) rows
rows_sum N k = is_sum_by (rows_use N k) (row_uses N k) refl (λ r rs. refl)

-- one slot in place of another
pub row_uses-with : (N : List ℕ) (k : ℕ) (r : Row) (part : Part) (slot : Option Slot) → row_uses N k (with_slot r part slot) + uses k (slot_links N (slot_of r part)) ≡ row_uses N k r + uses k (slot_links N slot)
row_uses-with N k r part slot = grind arith

pub parts_of-with : (l : Linked) (r : Row) (part : Part) (slot : Option Slot) → parts_of l (with_slot r part slot) ≡ with_part (parts_of l r) part (part_in l slot)
parts_of-with l r part slot = grind arith

pub part_of-slot : (l : Linked) (r : Row) (part : Part) → part_of (parts_of l r) part ≡ part_in l (slot_of r part)
part_of-slot l r part = grind arith

pub id-with : (r : Row) (part : Part) (slot : Option Slot) → (with_slot r part slot).id ≡ r.id
id-with r part slot = grind arith

-- ---- A table of rows that owns its pages, changed at a place.

-- ---- sizes

slot_sized : (l : Linked) (r : Row) (part : Part) → are_sized r (parts_of l r) ≡ true
    → is_sized (slot_of r part) (part_in l (slot_of r part)) ≡ true
slot_sized l r part all = grind arith

are_sized-with : (l : Linked) (r : Row) (part : Part) (slot : Option Slot) → are_sized r (parts_of l r) ≡ true → is_sized slot (part_in l slot) ≡ true → are_sized (with_slot r part slot) (parts_of l (with_slot r part slot)) ≡ true
are_sized-with l r part slot all new = grind arith

-- ---- the pages of all holdings

cost_sum : (es : Entries) → cost_in es ≡ sum_by (λ e. cost_of e.1) es
cost_sum = is_sum_by cost_in (λ e. cost_of e.1) refl (λ e es. sum_by-cons cost_of e.1 (map (λ x. x.1) es))

-- ---- one part of a row

pub record Changed (old new : Linked) (rows : List Row) (i : ℕ) (r s : Row) (p : Parts) : Type 0 where
  pub owns : Owns new (slice_set rows i s)
  pub entries : entries_of new (slice_set rows i s) ≡ slice_set (entries_of old rows) i (r.id, p)
  pub pages : all_pages new (slice_set rows i s) ≡ all_pages old rows
  pub ids : ids_of (slice_set rows i s) ≡ ids_of rows

-- a part that is stored
pub filled : (old new : Linked) (rows : List Row) (i : ℕ) (r : Row) (part : Part) (first : ℕ) (bytes : List ℕ) → Owns old rows → slice_get rows i ≡ Some r → slot_of r part ≡ None → 1 ≤ length bytes → length bytes ≤ most_bytes → Adds old new (links new.next (pages_for (length bytes)) first) → take (length bytes) (joined new.states (links new.next (pages_for (length bytes)) first)) ≡ bytes → count_by is_free new.states + pages_for (length bytes) ≡ count_by is_free old.states → Changed old new rows i r (with_slot r part (Some (record { first = first; size = length bytes }))) (with_part (parts_of old r) part (Some bytes))
filled old new rows i r part first bytes owns found absent some most adds holds free =
    let slot : Slot = record { first = first; size = length bytes } in
    let s : Row = with_slot r part (Some slot) in
    let ks : List ℕ = links new.next (pages_for (length bytes)) first in
    let p : Parts = with_part (parts_of old r) part (Some bytes) in
    let apart : (k : ℕ) → 0 < rows_use old.next k rows → uses k ks ≡ 0 = λ k used. adds_apart old new ks k adds (omega (arith, owns.uses k)) in
    let rest = rows_same old new rows
    (λ k used. record { state = adds.states k (apart k used); link = adds.next k (apart k used) }) in
    let before : slice_get (entries_of old rows) i ≡ Some (r.id, parts_of old r) = slice_get-entries_of old rows i r found in
    let same = slice_get-entries_of new rows i r found in
    let parts = (some_pair_parts r.id r.id (parts_of new r) (parts_of old r) (cc (rest.entries, before, same))).1 in
    let entries : entries_of new (slice_set rows i s) ≡ slice_set (entries_of old rows) i (r.id, p) =
    let moved = map-set {B = BlobId × Parts} (λ (q : Row). (q.id, parts_of new q)) rows i s in
    cc (moved, rest.entries, id-with r part (Some slot), parts_of-with new r part (Some slot), parts, holds) in
    let ids : ids_of (slice_set rows i s) ≡ ids_of rows = set-ids_of rows i s r found (id-with r part (Some slot)) in
    let cost = sum-set _ _ cost_sum (entries_of old rows) i (r.id, parts_of old r) before (r.id, p) in
    let none : part_cost (part_of (parts_of old r) part) ≡ 0 = cc (part_of-slot old r part) in
    let fits : is_sized (Some slot) (part_in new (Some slot)) ≡ true =
    cc (holds, eq-eqb (length bytes) _ refl, lt-ltb 0 (length bytes) (omega arith), le-leb _ most_bytes most) in
    record {
      owns = record {
        sorted = rw ids owns.sorted;
        sized = all-change (IsSized new) rows i r s (rest.sized owns.sized) found
            (λ was. are_sized-with new r part (Some slot) was fits);
        uses = λ k.
            let set = sum-set _ _ (rows_sum new.next k) rows i r found s in
            let bare = ap (λ o. uses k (slot_links new.next o)) absent in
            let one = row_uses-with new.next k r part (Some slot) in
            omega (arith, set, one, bare, rest.uses k, owns.uses k, adds.counts k);
        homes = all-change (IsHome new) rows i r s (rest.homes owns.homes) found (home_with new r part (Some slot));
      };
      entries = entries;
      pages = omega (arith, ap cost_in entries, cost, part_swap (parts_of old r) part (Some bytes), none, free);
      ids = ids;
    }

-- a part that goes
pub cleared : (old new : Linked) (rows : List Row) (i : ℕ) (r : Row) (part : Part) → Owns old rows → slice_get rows i ≡ Some r → Frees old new (slot_links old.next (slot_of r part)) → count_by is_free new.states ≡ count_by is_free old.states + part_cost (part_of (parts_of old r) part) → Changed old new rows i r (with_slot r part None) (with_part (parts_of old r) part None)
cleared old new rows i r part owns found frees free =
    let s : Row = with_slot r part None in
    let ks : List ℕ = slot_links old.next (slot_of r part) in
    let p : Parts = with_part (parts_of old r) part None in
    let left : (k : ℕ) → rows_use old.next k (slice_set rows i s) + uses k ks ≡ taken_at old.states k =
    λ k.
    let set = sum-set _ _ (rows_sum old.next k) rows i r found s in
    omega (arith, set, row_uses-with old.next k r part None, owns.uses k) in
    let apart : (k : ℕ) → 0 < rows_use old.next k (slice_set rows i s) → uses k ks ≡ 0 = λ k used. omega (arith, left k, taken_at-le old.states k) in
    let rest = rows_same old new (slice_set rows i s)
    (λ k used. record { state = frees.states k (apart k used); link = ap (λ xs. slice_index xs k) frees.next }) in
    let entries : entries_of new (slice_set rows i s) ≡ slice_set (entries_of old rows) i (r.id, p) =
    let moved = map-set {B = BlobId × Parts} (λ (q : Row). (q.id, parts_of old q)) rows i s in
    cc (rest.entries, moved, id-with r part None, parts_of-with old r part None) in
    let ids : ids_of (slice_set rows i s) ≡ ids_of rows = set-ids_of rows i s r found (id-with r part None) in
    let cost = sum-set _ _ cost_sum (entries_of old rows) i (r.id, parts_of old r)
    (slice_get-entries_of old rows i r found) (r.id, p) in
    record {
      owns = record {
        sorted = rw ids owns.sorted;
        sized = rest.sized (all-change (IsSized old) rows i r s owns.sized found (λ was. are_sized-with old r part None was refl));
        uses = λ k. omega (arith, rest.uses k, left k, frees.counts k);
        homes = rest.homes (all-change (IsHome old) rows i r s owns.homes found (home_with old r part None));
      };
      entries = entries;
      pages = omega (arith, ap cost_in entries, cost, part_swap (parts_of old r) part None, free);
      ids = ids;
    }

-- ---- rows that come and go

past_all : (id x : BlobId) (ids : List BlobId) → id_cmp id x ≡ Less → AllByRecursion (λ y. id_cmp x y ≡ Less) ids → AllByRecursion (λ y. id_cmp id y ≡ Less) ids
past_all id x [] less all = tt
past_all id x (y ∷ ids) less all = (ids_total.trans id x y less all.0, past_all id x ids less all.1)

sorted-insert : (ids : List BlobId) (i : ℕ) (id : BlobId) → IsStrictlySortedBy id_cmp ids → ((j : ℕ) (other : BlobId) → j < i → slice_get ids j ≡ Some other → id_cmp id other ≡ Greater) → ((j : ℕ) (other : BlobId) → i ≤ j → slice_get ids j ≡ Some other → id_cmp id other ≡ Less) → IsStrictlySortedBy id_cmp (insert ids i id)
unfolding IsStrictlySortedBy
sorted-insert [] zero id sorted before after = (tt, tt)
sorted-insert [] (suc i) id sorted before after = (tt, tt)
sorted-insert (x ∷ ids) zero id sorted before after =
    let less = after 0 x (omega arith) refl in ((less, past_all id x ids less sorted.0), sorted)
sorted-insert (x ∷ ids) (suc i) id sorted before after =
    let less : id_cmp x id ≡ Less = ids_total.antisymm x id ∙ ap ordering_reverse (before 0 x (omega arith) refl) in (
      all-insert (λ y. id_cmp x y ≡ Less) ids i id sorted.0 less,
      sorted-insert ids i id sorted.1 (λ j y lt found. before (suc j) y (omega arith) found) (λ j y ge found. after (suc j) y (omega arith) found),
    )

pub record Added (old new : Linked) (rows : List Row) (i : ℕ) (id : BlobId) (home : ℕ) : Type 0 where
  pub owns : Owns new (insert rows i (no_slots id home))
  pub entries : entries_of new (insert rows i (no_slots id home)) ≡ insert (entries_of old rows) i (id, no_parts)
  pub pages : all_pages new (insert rows i (no_slots id home)) ≡ all_pages old rows
  pub ids : ids_of (insert rows i (no_slots id home)) ≡ insert (ids_of rows) i id

-- a row without parts comes
pub added : (old new : Linked) (rows : List Row) (i : ℕ) (id : BlobId) (home : ℕ) → Owns old rows → IsGap id (ids_of rows) i → Adds old new (home ∷ []) → count_by is_free new.states + 1 ≡ count_by is_free old.states → IsHome new (no_slots id home) → Added old new rows i id home
added old new rows i id home owns gap adds free home_is =
    let r : Row = no_slots id home in
    let ks : List ℕ = home ∷ [] in
    let apart : (k : ℕ) → 0 < rows_use old.next k rows → uses k ks ≡ 0 = λ k used. adds_apart old new ks k adds (omega (arith, owns.uses k)) in
    let rest : RowsSame old new rows = rows_same old new rows (λ k used. record { state = adds.states k (apart k used); link = adds.next k (apart k used) }) in
    let entries : entries_of new (insert rows i r) ≡ insert (entries_of old rows) i (id, no_parts) =
    map-insert (λ (q : Row). (q.id, parts_of new q)) rows i r ∙ ap (λ es. insert es i (id, no_parts)) rest.entries in
    let ids : ids_of (insert rows i r) ≡ insert (ids_of rows) i id = map-insert (λ (q : Row). q.id) rows i r in
    record {
      owns = record {
        sorted = rw ids (sorted-insert (ids_of rows) i id owns.sorted gap.before gap.after);
        sized = all-insert (IsSized new) rows i r (rest.sized owns.sized) refl;
        uses = λ k.
            let more = sum-insert _ _ (rows_sum new.next k) rows i r in
            omega (arith, more, rest.uses k, owns.uses k, adds.counts k);
        homes = all-insert (IsHome new) rows i r (rest.homes owns.homes) home_is;
      };
      entries = entries;
      pages = omega (arith, ap cost_in entries, sum-insert _ _ cost_sum (entries_of old rows) i (id, no_parts), free);
      ids = ids;
    }

pub sorted-remove : (ids : List BlobId) (i : ℕ) → IsStrictlySortedBy id_cmp ids → IsStrictlySortedBy id_cmp (remove ids i)
unfolding IsStrictlySortedBy
sorted-remove (x ∷ ids) (suc i) sorted = (all-remove (λ y. id_cmp x y ≡ Less) ids i sorted.0, sorted-remove ids i sorted.1)
sorted-remove ids zero sorted = assumption
sorted-remove [] i sorted = tt

pub record Removed (old new : Linked) (rows : List Row) (i : ℕ) : Type 0 where
  pub owns : Owns new (remove rows i)
  pub entries : entries_of new (remove rows i) ≡ remove (entries_of old rows) i
  pub pages : all_pages new (remove rows i) ≡ all_pages old rows

-- a row without parts goes
pub removed : (old new : Linked) (rows : List Row) (i : ℕ) (r : Row) → Owns old rows → slice_get rows i ≡ Some r → r ≡ no_slots r.id r.home → Frees old new (r.home ∷ []) → count_by is_free new.states ≡ count_by is_free old.states + 1 → Removed old new rows i
removed old new rows i r owns found bare frees free =
    let ks : List ℕ = r.home ∷ [] in
    let row : (k : ℕ) → row_uses old.next k r ≡ uses k ks = λ k. ap (row_uses old.next k) bare ∙ omega arith in
    let left : (k : ℕ) → rows_use old.next k (remove rows i) + uses k ks ≡ taken_at old.states k =
    λ k. omega (arith, sum-remove _ _ (rows_sum old.next k) rows i r found, row k, owns.uses k) in
    let apart : (k : ℕ) → 0 < rows_use old.next k (remove rows i) → uses k ks ≡ 0 = λ k used. omega (arith, left k, taken_at-le old.states k) in
    let rest : RowsSame old new (remove rows i) = rows_same old new (remove rows i) (λ k used. record { state = frees.states k (apart k used); link = ap (λ xs. slice_index xs k) frees.next }) in
    let entries : entries_of new (remove rows i) ≡ remove (entries_of old rows) i = rest.entries ∙ map-remove (λ (q : Row). (q.id, parts_of old q)) rows i in
    let cost = sum-remove _ _ cost_sum (entries_of old rows) i (r.id, parts_of old r)
    (slice_get-entries_of old rows i r found) in
    let one : cost_of (parts_of old r) ≡ 1 = ap (λ x. cost_of (parts_of old x)) bare in
    record {
      owns = record {
        sorted = rw (map-remove (λ (q : Row). q.id) rows i) (sorted-remove (ids_of rows) i owns.sorted);
        sized = rest.sized (all-remove (IsSized old) rows i owns.sized);
        uses = λ k. omega (arith, rest.uses k, left k, frees.counts k);
        homes = rest.homes (all-remove (IsHome old) rows i owns.homes);
      };
      entries = entries;
      pages = omega (arith, ap cost_in entries, cost, one, free);
    }

-- the pages of a part of a row are taken
pub slot_taken : (l : Linked) (rows : List Row) (i : ℕ) (r : Row) (part : Part) (k : ℕ) → Owns l rows → slice_get rows i ≡ Some r → uses k (slot_links l.next (slot_of r part)) ≤ taken_at l.states k
slot_taken l rows i r part k owns found =
    omega (arith, sum-within _ _ (rows_sum l.next k) rows i r found, owns.uses k, row_uses-with l.next k r part None)

pub record Sized (l : Linked) (s : Slot) : Type 0 where
  pub long : length (content l s) ≡ s.size
  pub some : 0 < s.size
  pub most : s.size ≤ most_bytes

sized_of : (l : Linked) (s : Slot) → is_sized (Some s) (part_in l (Some s)) ≡ true → Sized l s
sized_of l s is = grind (arith, nat_tests)

-- what is known of a part of a row
pub slot_of_row : (l : Linked) (rows : List Row) (i : ℕ) (r : Row) (part : Part) (s : Slot) → AllByRecursion (IsSized l) rows → slice_get rows i ≡ Some r → slot_of r part ≡ Some s → Sized l s
slot_of_row l rows i r part s all found is =
    sized_of l s (ap (λ o. is_sized o (part_in l o)) (sym is) ∙ slot_sized l r part (all-at (IsSized l) rows i r all found))

cost_by : (l : Linked) (o : Option Slot) → is_sized o (part_in l o) ≡ true → part_cost (part_in l o) ≡ slot_cost o
cost_by l o is = grind (arith, nat_tests)

pub slot_costs : (l : Linked) (rows : List Row) (i : ℕ) (r : Row) (part : Part) → AllByRecursion (IsSized l) rows → slice_get rows i ≡ Some r → part_cost (part_of (parts_of l r) part) ≡ slot_cost (slot_of r part)
slot_costs l rows i r part all found =
    ap part_cost (part_of-slot l r part) ∙ cost_by l (slot_of r part) (slot_sized l r part (all-at (IsSized l) rows i r all found))
