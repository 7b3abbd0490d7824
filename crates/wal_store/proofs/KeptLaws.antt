-- Rows at places against entries under identifiers.
use Rattle.wal_store.proofs.Common.{◌≡◌, ℕ, suc, ◌+◌, ◌-◌, ◌<◌, ◌≤◌, Bool, true, false, cond, Option, Some, None, List, [], ◌∷◌, map, length, take, drop, replicate, slice_get, slice_set, get_or, count_by, refl, sym, ap, ◌∙◌, arith, insert, remove, eq_by_cmp_equiv, tied_itself, IsStrictlySortedBy, keys_of, remove_entry, is_at, insert_entry, length-map, drop-take, take-take, length-insert, get_or-insert_at, sum_by-cons, lookup-remove_entry, lookup_from_place, lookup_at_gap, IsDistinct-from_sorted, slice_get-map, slice_get-get_or, slice_get_read, slice_get_within, BlobId, Part, Metadata, Primary, Secondary, Proof, Slot, Row, id_cmp, Parts, no_parts, part_of, with_part, is_empty, cost_of, pages_for, PageState, Free, is_free, all_pages, Linked, links, uses, taken_at, Entries, found_in, parts_in, cost_in, changed_in, no_slots, slot_of, content, part_in, parts_of, ids_of, entries_of, is_bare, Owns, IsGap, StoreState, IsSome}
use Rattle.std.proofs.lemmas.List.Folds.{sum_by-replicate}
use Rattle.wal_store.proofs.IdentifierLaws.{ids_total}
use Rattle.wal_store.proofs.EntriesLaws.{gone_none, set_at, remove_at, insert_at, found_put, put_twice, remove_put}
use Rattle.wal_store.proofs.TableLaws.{keys_of-entries_of, slice_get-entries_of, part_of-slot, Sized, slot_of_row, slot_taken}
use Rattle.std.specs.FinMap as fin
use Rattle.wal_store.proofs.StockLaws.{empty_still, Shows, shows_of}

-- a row at the place of its identifier, among entries in order
pub record RowAt (l : Linked) (rows : List Row) (i : ℕ) (id : BlobId) (r : Row) : Type 0 where
  pub found : found_in (entries_of l rows) id ≡ Some (parts_of l r)
  pub put : (p : Parts) → slice_set (entries_of l rows) i (r.id, p) ≡ insert_entry id_cmp (entries_of l rows) id p
  pub gone : remove (entries_of l rows) i ≡ remove_entry (is_at (id_cmp id)) (entries_of l rows)

pub entries_sorted : (l : Linked) (rows : List Row) → Owns l rows
    → IsStrictlySortedBy id_cmp (keys_of (entries_of l rows))
entries_sorted l rows owns = rw (keys_of-entries_of l rows) owns.sorted

-- what a pool's view says of its entries
pub shows_rows : {l : Linked} {rows : List Row} {limit : Option ℕ} {s : StoreState} → Owns l rows
    → ◌≡◌ {A = StoreState} (record { contents = fin.from_sorted {R = id_cmp} (entries_of l rows); limit = limit }) s
    → Shows (entries_of l rows) s.contents
shows_rows {l} {rows} owns view = shows_of (entries_sorted l rows owns) view

row_at : (l : Linked) (rows : List Row) (i : ℕ) (id : BlobId) (r : Row) → Owns l rows
    → slice_get (ids_of rows) i ≡ Some id → slice_get rows i ≡ Some r → RowAt l rows i id r
row_at l rows i id r owns at found =
    let es : Entries = entries_of l rows in
    let ordered = entries_sorted l rows owns in
    let same : r.id ≡ id = cc (slice_get-map (λ (q : Row). q.id) rows i) in
    let here : slice_get es i ≡ Some (id, parts_of l r) = cc (slice_get-entries_of l rows i r found) in
    record {
      found = lookup_from_place (eq_by_cmp_equiv ids_total) es i id (parts_of l r)
          (IsDistinct-from_sorted id_cmp (keys_of es) ordered) here;
      put = λ p. ap (λ x. slice_set es i (x, p)) same ∙ set_at id_cmp ids_total es i id (parts_of l r) p ordered here;
      gone = remove_at id_cmp ids_total es i id (parts_of l r) ordered here;
    }

place_within : (rows : List Row) (i : ℕ) (id : BlobId) → slice_get (ids_of rows) i ≡ Some id → i < length rows
place_within rows i id at = omega (arith, slice_get_within (ids_of rows) i id at, length-map rows (λ (r : Row). r.id))

-- where an identifier is there is its row
pub some_row : (l : Linked) (rows : List Row) (i : ℕ) (id : BlobId) → Owns l rows
    → slice_get (ids_of rows) i ≡ Some id → (r : Row) × (slice_get rows i ≡ Some r) × RowAt l rows i id r
some_row l rows i id owns at =
    let found = slice_get-get_or rows i (no_slots id 0) (place_within rows i id at) in
    (get_or rows i (no_slots id 0), found, row_at l rows i id (get_or rows i (no_slots id 0)) owns at found)

entry_id : (l : Linked) (rows : List Row) (j : ℕ) (e : BlobId × Parts) → slice_get (entries_of l rows) j ≡ Some e → slice_get (ids_of rows) j ≡ Some e.0
entry_id l rows j e found =
    cc (keys_of-entries_of l rows, slice_get-map {B = BlobId} (λ (x : BlobId × Parts). x.0) (entries_of l rows) j)

-- an identifier that falls into a gap of the rows is not found
pub found_gap : (l : Linked) (rows : List Row) (i : ℕ) (id : BlobId) → IsGap id (ids_of rows) i → Owns l rows
    → found_in (entries_of l rows) id ≡ None
found_gap l rows i id gap owns =
    lookup_at_gap ids_total id (entries_of l rows) i (entries_sorted l rows owns)
    (λ j e lt found. gap.before j e.0 lt (entry_id l rows j e found))
    (λ e found. gap.after i e.0 (omega arith) (entry_id l rows i e found))

pub put_gap : (l : Linked) (rows : List Row) (i : ℕ) (id : BlobId) (p : Parts) → IsGap id (ids_of rows) i → insert (entries_of l rows) i (id, p) ≡ insert_entry id_cmp (entries_of l rows) id p
put_gap l rows i id p gap =
    insert_at id_cmp ids_total (entries_of l rows) i id p
    (λ j e lt found. gap.before j e.0 lt (entry_id l rows j e found))
    (λ e found. gap.after i e.0 (omega arith) (entry_id l rows i e found))

-- a row that was made for an identifier
pub made : (l m : Linked) (rows now : List Row) (i : ℕ) (id : BlobId) → Owns l rows
    → IsGap id (ids_of rows) i → entries_of m now ≡ insert (entries_of l rows) i (id, no_parts)
    → (parts_in (entries_of m now) id ≡ parts_in (entries_of l rows) id)
    × ((p : Parts) → insert_entry id_cmp (entries_of m now) id p ≡ insert_entry id_cmp (entries_of l rows) id p)
made l m rows now i id owns gap change =
    let es : Entries = entries_of l rows in
    let put = put_gap l rows i id no_parts gap in (
      cc (change, put, found_put id_cmp ids_total es id no_parts, found_gap l rows i id gap owns),
      λ p. cc (change, put, put_twice id_cmp ids_total es id no_parts p),
    )

pub slice_get-insert : {X : Type 0} (xs : List X) (i : ℕ) (x : X) → i ≤ length xs → slice_get (insert xs i x) i ≡ Some x
slice_get-insert xs i x within =
    slice_get_read (insert xs i x) _ i x refl (omega (arith, length-insert xs i x within))
    (sym (get_or-insert_at xs i x x within))

-- ---- the bytes of a part

slot_gone : (l : Linked) (o : Option Slot) → part_in l o ≡ None → o ≡ None
slot_gone l o is = grind arith

-- a part that is not held has no slot
pub slot_free : (l : Linked) (rows : List Row) (i : ℕ) (id : BlobId) (part : Part) (r : Row) → Owns l rows
    → slice_get (ids_of rows) i ≡ Some id → part_of (parts_in (entries_of l rows) id) part ≡ None
    → slice_get rows i ≡ Some r → slot_of r part ≡ None
slot_free l rows i id part r owns at absent found =
    let here = row_at l rows i id r owns at found in
    slot_gone l (slot_of r part) (cc (here.found, part_of-slot l r part))

none_held : (part : Part) → part_of no_parts part ≡ None
none_held part = grind arith

-- no part is held under an identifier that belongs in a gap
pub part_gap : (l : Linked) (rows : List Row) (i : ℕ) (id : BlobId) (part : Part) → Owns l rows
    → IsGap id (ids_of rows) i → part_of (parts_in (entries_of l rows) id) part ≡ None
part_gap l rows i id part owns gap = cc (found_gap l rows i id gap owns, none_held part)

-- the bytes of a part of a row that was read
pub part_at : (l : Linked) (rows : List Row) (i : ℕ) (id : BlobId) (part : Part) (r : Row) (o p : Option Slot)
    → Owns l rows → slice_get (ids_of rows) i ≡ Some id → r ≡ get_or rows i r → o ≡ slot_of r part → o ≡ p
    → part_of (parts_in (entries_of l rows) id) part ≡ part_in l p
part_at l rows i id part r o p owns at read slot is =
    let found = slice_get_read rows _ i r refl (place_within rows i id at) read in
    let here = row_at l rows i id r owns at found in
    cc (here.found, part_of-slot l r part)

-- what is known of a part of a row that was read
pub record SlotAt (l : Linked) (rows : List Row) (id : BlobId) (part : Part) (s : Slot) : Type 0 where
  pub bytes : part_of (parts_in (entries_of l rows) id) part ≡ Some (content l s)
  pub sized : Sized l s
  pub taken : (k : ℕ) → uses k (links l.next (pages_for s.size) s.first) ≤ taken_at l.states k

pub slot_at : (l : Linked) (rows : List Row) (i : ℕ) (id : BlobId) (part : Part) (r : Row) (o : Option Slot)
    (s : Slot) → Owns l rows → slice_get (ids_of rows) i ≡ Some id → r ≡ get_or rows i r → o ≡ slot_of r part
    → o ≡ Some s → SlotAt l rows id part s
slot_at l rows i id part r o s owns at read slot is =
    let found = slice_get_read rows _ i r refl (place_within rows i id at) read in
    let here : slot_of r part ≡ Some s = cc in
    record {
      bytes = part_at l rows i id part r o (Some s) owns at read slot is;
      sized = slot_of_row l rows i r part s owns.sized found here;
      taken = λ k. rw here at (slot_taken l rows i r part k owns found);
    }

-- an option that is None is not Some
pub part_none : (o : Option (List ℕ)) → o ≡ None → IsSome o → ⊥
part_none o none some = cc

-- bytes within the first of a list
pub within_front : (size at n : ℕ) (xs : List ℕ) → at + n ≤ size → take n (drop at (take size xs)) ≡ take n (drop at xs)
within_front size at n xs fits =
    let m : ℕ = size - at in
    let sum : size ≡ at + m = omega arith in
    cc (drop-take at m xs, take-take n m (drop at xs) (omega arith))

pub rows_fit : (l : Linked) (rows : List Row) (pages : ℕ) → all_pages l rows ≡ pages
    → length rows + count_by is_free l.states ≤ pages
rows_fit l rows pages all = omega (arith, all, each_costs rows)
  where
    each_costs : (rs : List Row) → length rs ≤ cost_in (entries_of l rs)
    each_costs [] = omega arith
    each_costs (r ∷ rs) =
        omega (arith, sum_by-cons cost_of (parts_of l r) (map (λ e. e.1) (entries_of l rs)), each_costs rs)

-- ---- a part that goes

-- to drop a part of an identifier that is not there changes nothing
pub dropped_none : (es : Entries) (id : BlobId) (part : Part) → found_in es id ≡ None
    → es ≡ changed_in es id (with_part (parts_in es id) part None)
dropped_none es id part found = cc (empty_still part, gone_none (is_at (id_cmp id)) es found)

bare_empty : (l : Linked) (r : Row) → is_bare r ≡ is_empty (parts_of l r)
bare_empty l r = grind arith

-- where a part of a row goes, and the row with the last one
pub part_gone : (l m : Linked) (rows now : List Row) (i : ℕ) (id : BlobId) (part : Part) (s : Row) (b : Bool)
    → Owns l rows → Owns m now → slice_get (ids_of rows) i ≡ Some id → ids_of now ≡ ids_of rows → s ≡ get_or now i s
    → is_bare s ≡ b → ((r : Row) → slice_get rows i ≡ Some r → entries_of m now
    ≡ slice_set (entries_of l rows) i (r.id, with_part (parts_of l r) part None))
    → cond b (remove (entries_of m now) i) (entries_of m now)
    ≡ changed_in (entries_of l rows) id (with_part (parts_in (entries_of l rows) id) part None)
part_gone l m rows now i id part s b owns later at ids read bare change =
    let es : Entries = entries_of l rows in
    let old = some_row l rows i id owns at in
    let q : Parts = with_part (parts_of l old.0) part None in
    let there : slice_get (ids_of now) i ≡ Some id = ap (λ ks. slice_get ks i) ids ∙ at in
    let new = row_at m now i id s later there (slice_get_read now _ i s refl (place_within now i id there) read) in
    let put : entries_of m now ≡ insert_entry id_cmp es id q = change old.0 old.1 ∙ old.2.put q in
    let same : parts_of m s ≡ q = cc (put, new.found, found_put id_cmp ids_total es id q) in
    let last = remove_put id_cmp ids_total es id q (entries_sorted l rows owns) in
    cc (put, same, bare, bare_empty m s, new.gone, old.2.found, last)

-- ---- all parts go, one after the other

empty_is : (p : Parts) → is_empty p ≡ true → p ≡ no_parts
empty_is p all = grind arith

-- what a part that goes leaves under its identifier
record Left (es now : Entries) (id : BlobId) (p : Parts) : Type 0 where
  parts : parts_in now id ≡ p
  gone : remove_entry (is_at (id_cmp id)) now ≡ remove_entry (is_at (id_cmp id)) es

left_by : (es now : Entries) (id : BlobId) (p : Parts) → IsStrictlySortedBy id_cmp (keys_of es)
    → (b : Bool) → is_empty p ≡ b → now ≡ cond b (remove_entry (is_at (id_cmp id)) es) (insert_entry id_cmp es id p)
    → Left es now id p
left_by es now id p sorted true is change =
    let laws = eq_by_cmp_equiv ids_total in
    let left = lookup-remove_entry laws (is_at (id_cmp id)) (λ x y at. laws.congr id x y at) id es
    (IsDistinct-from_sorted id_cmp (keys_of es) sorted) in
    let none : found_in now id ≡ None = cc (left, tied_itself ids_total id) in
    record { parts = cc (empty_is p is); gone = cc (gone_none (is_at (id_cmp id)) now none) }
left_by es now id p sorted false is change =
    record { parts = cc (found_put id_cmp ids_total es id p); gone = cc (remove_put id_cmp ids_total es id p sorted) }

-- all four go
pub all_gone : (a b c d e : Entries) (id : BlobId) → IsStrictlySortedBy id_cmp (keys_of a)
    → IsStrictlySortedBy id_cmp (keys_of b) → IsStrictlySortedBy id_cmp (keys_of c)
    → b ≡ changed_in a id (with_part (parts_in a id) Metadata None)
    → c ≡ changed_in b id (with_part (parts_in b id) Primary None)
    → d ≡ changed_in c id (with_part (parts_in c id) Secondary None)
    → e ≡ changed_in d id (with_part (parts_in d id) Proof None) → e ≡ remove_entry (is_at (id_cmp id)) a
all_gone a b c d e id sa sb sc m p s f =
    let one = left_by a b id (with_part (parts_in a id) Metadata None) sa _ refl m in
    let two = left_by b c id (with_part (parts_in b id) Primary None) sb _ refl p in
    let three = left_by c d id (with_part (parts_in c id) Secondary None) sc _ refl s in
    let parts : with_part (parts_in d id) Proof None ≡ no_parts = cc (one.parts, two.parts, three.parts) in
    cc (parts, f, three.gone, two.gone, one.gone)

-- ---- the whole table

pub length-entries_of : (l : Linked) (rows : List Row) → length (entries_of l rows) ≡ length rows
length-entries_of l rows = length-map {B = BlobId × Parts} rows (λ r. (r.id, parts_of l r))

none_taken : (n k : ℕ) → taken_at (replicate n Free) k ≡ 0
none_taken (suc n) (suc k) = none_taken n k
none_taken n k = refl

-- pages that are all free belong to no rows, and all of them count
pub new_table : (l : Linked) (pages : ℕ) → l.states ≡ replicate pages Free → Owns l [] × (all_pages l [] ≡ pages)
unfolding IsStrictlySortedBy
new_table l pages free =
    let count = ap (count_by is_free) free ∙ sum_by-replicate (λ (s : PageState). cond (is_free s) 1 0) pages Free in
    let none = λ (k : ℕ). sym (ap (λ ss. taken_at ss k) free ∙ none_taken pages k) in
    (record { sorted = tt; sized = tt; uses = none; homes = tt }, omega (arith, count))

-- the first row goes
pub first_gone : (l m : Linked) (rows now : List Row) (r : Row) → slice_get rows 0 ≡ Some r → entries_of m now ≡ remove_entry (is_at (id_cmp r.id)) (entries_of l rows) → length now + 1 ≡ length rows
first_gone l m [] now r found change = cc
first_gone l m (q ∷ rows) now r found change =
    let rest : entries_of m now ≡ entries_of l rows = cc (tied_itself ids_total r.id) in
    omega (arith, ap length rest, length-entries_of m now, length-entries_of l rows)
