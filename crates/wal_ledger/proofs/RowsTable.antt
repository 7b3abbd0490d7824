-- Identifiers and rows by their numbers, in the order of the identifiers.
use Rattle.wal_ledger.proofs.Common.{◌≡◌, ℕ, ◌+◌, ◌<◌, ◌≤◌, Bool, cond, List, [], ◌∷◌, ◌++◌, length, map, filter, insert, slice_set, get_or, All, Contains, inl, inr, refl, sym, ap, ◌∙◌, subst, arith, insert_key, cases_lt, length-map, length-append, get_or-map, get_or_default, get_or_push, get_or_append_left, length-insert, All-nil, All-filter, IsStrictlySortedBy-filter, BlobId, Row, id_cmp, id_eq, Ascends, Rows, IsPlace, IsInsertionPoint, IsOrder, IsTable, id_of, ids_of, row_of, row_beside, ◌≢◌, zero, suc, true, take, drop, Result, Ok, Err, IfOk, IfErr, Less, is_lt, ordering_reverse, eq_by_cmp, IsSearchInRange, IsBinarySearchResult, both_ways, map-append, take-map, drop-map, get_or-set_same, get_or-set_other, get_or-insert_below, get_or-insert_at, get_or-insert_above, All-head, All-tail, All-cons, Less-from_sorted, IsDistinct-from_sorted, list_any-from_Contains, Contains-from_any, no_row}
use Rattle.wal_ledger.proofs.Order.{ascends_nil, id_inserted_ascends, ids_total}
use Rattle.wal_ledger.proofs.RowsPlace.{beside_at, beside_place, beside_set, beside_insert, id_itself, exact_ids, place_found, place_missed, id_tied}
use Rattle.std.proofs.lemmas.Cmp.{eq_by_cmp_equiv}
use Rattle.std.proofs.lemmas.List.Sorted.{searchable_from_sorted}
use Rattle.std.proofs.lemmas.Map.Made.{length-le_from_is_member}

-- what a binary search through numbers tells of what they stand for
pub numbers_searched : (ids : List BlobId) (ns : List ℕ) (id : BlobId) (r : Result ℕ ℕ) → Ascends (ids_of ids ns)
    → IsSearchInRange r (length ns) → IsBinarySearchResult (λ n. id_cmp (id_of ids n) id) ns r
    → IfOk r (IsPlace (ids_of ids ns) id) × IfErr r (IsInsertionPoint (ids_of ids ns) id)
numbers_searched ids ns id (Ok place) ascends lt here =
    let within : place < length (ids_of ids ns) = omega (arith, lt, length-map ns (id_of ids)) in
    let found = place_found (ids_of ids ns) id place ascends within
    (λ d. ap (λ y. id_cmp y id) (get_or-map (id_of ids) ns place 0 d lt) ∙ here 0) in
    (found, tt)
numbers_searched ids ns id (Err place) ascends le parted =
    let many : length (ids_of ids ns) ≡ length ns = length-map ns (id_of ids) in
    let point = parted (searchable_from_sorted ids_total (id_of ids) ns id (λ i d low high.
    let x : BlobId = id_of ids (get_or ns i d) in
    let y : BlobId = id_of ids (get_or ns (i + 1) d) in
    let less : id_cmp x y ≡ Less = ap (λ z. id_cmp z y) (sym (get_or-map (id_of ids) ns i d x (omega arith))) ∙ ap (id_cmp (get_or (ids_of ids ns) i x)) (sym (get_or-map (id_of ids) ns (i + 1) d x high))
    ∙ Less-from_sorted id_cmp (ids_of ids ns) i (i + 1) x ascends (omega arith) (omega (arith, many, high)) in
    ap is_lt (ids_total.antisymm y x ∙ ap ordering_reverse less))) in
    let missed = place_missed (ids_of ids ns) id place (omega (arith, le, many))
    (λ j d lt. ap (λ y. id_cmp y id) (get_or-map (id_of ids) ns j 0 d (omega (arith, le))) ∙ point.0 j 0 (omega arith) lt)
    (λ j d ge lt. ap (λ y. id_cmp y id) (get_or-map (id_of ids) ns j 0 d (omega (arith, many))) ∙ point.1 j 0 ge (omega (arith, many))) in
    (tt, missed)

-- a number put at a place
pub map-insert : {Y : Type 0} (f : ℕ → Y) (ns : List ℕ) (place n : ℕ) → map f (insert ns place n) ≡ insert (map f ns) place (f n)
map-insert f ns place n = map-append f (take place ns) (n ∷ drop place ns) ∙ (λ j. sym (take-map f place ns) j ++ f n ∷ sym (drop-map f place ns) j)

-- functions that agree on numbers
pub map_same : {Y : Type 0} (f g : ℕ → Y) (ns : List ℕ) → All (λ n. f n ≡ g n) ns → map f ns ≡ map g ns
map_same f g [] all = refl
map_same f g (n ∷ ns) all = ap (λ y. y ∷ map f ns) (All-head (λ n. f n ≡ g n) n ns all) ∙ ap (λ l. g n ∷ l) (map_same f g ns (All-tail (λ n. f n ≡ g n) n ns all))

-- a number has one place in an order
one_place : (ids : List BlobId) (ns : List ℕ) (i j : ℕ) → Ascends (ids_of ids ns) → i < j → j < length ns → get_or ns i 0 ≡ get_or ns j 0 → ⊥
one_place ids ns i j ascends lt within same =
    let none : BlobId = id_of ids 0 in
    let x : BlobId = id_of ids (get_or ns j 0) in
    let tied : id_cmp x x ≡ Less = cc (
      Less-from_sorted id_cmp (ids_of ids ns) i j none ascends lt (omega (arith, length-map ns (id_of ids))),
      get_or-map (id_of ids) ns i 0 none (omega arith),
      get_or-map (id_of ids) ns j 0 none within,
      same,
    ) in
    both_ways (id_eq x x) (id_tied x x Less tied) (id_itself x)

-- two places of a table in ascending order have different rows
pub apart : (ids : List BlobId) (ns : List ℕ) (place j : ℕ) → Ascends (ids_of ids ns) → place < length ns → j < length ns → j ≢ place → get_or ns j 0 ≢ get_or ns place 0
apart ids ns place j ascends within lt other same = elim (cases_lt j place) [
  | inl below ↦ one_place ids ns j place ascends below within same
  | inr above ↦ one_place ids ns place j ascends (omega arith) lt (sym same)
]

-- another row of a number
set_else : (rows : List Row) (number : ℕ) (row : Row) (ns : List ℕ) → ((j : ℕ) → j < length ns → get_or ns j 0 ≢ number) → map (row_of (slice_set rows number row)) ns ≡ map (row_of rows) ns
set_else rows number row [] other = refl
set_else rows number row (n ∷ ns) other =
    cc (get_or-set_other rows number n row no_row (other 0 (omega arith)), set_else rows number row ns (λ j lt. other (suc j) (omega arith)))

pub set_row : (rows : List Row) (number : ℕ) (row : Row) (ns : List ℕ) (place : ℕ) → number < length rows → place < length ns → get_or ns place 0 ≡ number
    → ((j : ℕ) → j < length ns → j ≢ place → get_or ns j 0 ≢ number) → map (row_of (slice_set rows number row)) ns ≡ slice_set (map (row_of rows) ns) place row
set_row rows number row [] place within lt is other = absurd (omega arith)
set_row rows number row (n ∷ ns) zero within lt is other =
    cc (set_else rows number row ns (λ j below. other (suc j) (omega arith) (λ e. omega arith)), get_or-set_same rows number row no_row within)
set_row rows number row (n ∷ ns) (suc place) within lt is other =
    cc (get_or-set_other rows number n row no_row (other 0 (omega arith) (λ e. omega arith)), set_row rows number row ns place within (omega arith) is (λ j below ne. other (suc j) (omega arith) (λ e. ne (omega arith))))

-- those that pass, by their numbers
pub filter_mapped : {Y : Type 0} (f : ℕ → Y) (p : ℕ → Bool) (q : Y → Bool) (ns : List ℕ) → All (λ n. p n ≡ q (f n)) ns → map f (filter p ns) ≡ filter q (map f ns)
filter_mapped f p q [] all = refl
filter_mapped f p q (n ∷ ns) all =
    rw (← All-head (λ n. p n ≡ q (f n)) n ns all, ← filter_mapped f p q ns (All-tail (λ n. p n ≡ q (f n)) n ns all)) (grind arith)

-- what was put in stays when one more is
pub in_inserted : (ns : List ℕ) (place n m : ℕ) → place ≤ length ns → Contains ns m → Contains (insert ns place n) m
in_inserted ns place n m le (k, lt, at) = elim (cases_lt k place) [
  | inl below ↦ (k, omega (arith, length-insert ns place n le), get_or-insert_below ns place n m k below le ∙ at)
  | inr above ↦ (k + 1, omega (arith, length-insert ns place n le), get_or-insert_above ns place n m k above le ∙ at)
]

pub new_inserted : (ns : List ℕ) (place n : ℕ) → place ≤ length ns → Contains (insert ns place n) n
new_inserted ns place n le = (place, omega (arith, length-insert ns place n le), get_or-insert_at ns place n n le)

pub All-insert : (P : ℕ → Type 0) (ns : List ℕ) (place n : ℕ) → All P ns → P n → All P (insert ns place n)
All-insert P ns zero n all p = All-cons P n ns p all
All-insert P [] (suc place) n all p = All-cons P n [] p all
All-insert P (m ∷ ns) (suc place) n all p = All-cons P m (insert ns place n) (All-head P m ns all) (All-insert P ns place n (All-tail P m ns all) p)

-- an order has at most as many numbers as there are identifiers
exact : (x y : BlobId) → eq_by_cmp id_cmp x y ≡ true → x ≡ y
exact x y h = exact_ids x y (grind arith)

in_all : (ids : List BlobId) (ns : List ℕ) (q : BlobId) → All (λ n. n < length ids) ns → Contains (ids_of ids ns) q → Contains ids q
in_all ids ns q below (k, lt, at) =
    let within : k < length ns = omega (arith, length-map ns (id_of ids)) in
    let number : ℕ = get_or ns k 0 in
    let low : number < length ids = below k 0 within in
    (number, low, get_or_default ids number q _ low ∙ sym (get_or-map (id_of ids) ns k 0 q within) ∙ at)

pub few_numbers : (ids : List BlobId) (ns : List ℕ) → IsOrder ids ns → length ns ≤ length ids
few_numbers ids ns i =
    let few = length-le_from_is_member (eq_by_cmp_equiv ids_total) (ids_of ids ns) ids (IsDistinct-from_sorted id_cmp (ids_of ids ns) i.ascends)
    (λ q there. list_any-from_Contains (eq_by_cmp_equiv ids_total) q ids (in_all ids ns q i.below (Contains-from_any exact q (ids_of ids ns) there))) in
    omega (arith, length-map ns (id_of ids))

-- ---- A table after one more identifier, with one more live one, and with fewer.

-- numbers stand for what they stood for when one more follows
pub of_push : {X : Type 0} (xs : List X) (x d : X) (ns : List ℕ) → All (λ n. n < length xs) ns → map (λ n. get_or (xs ++ x ∷ []) n d) ns ≡ map (λ n. get_or xs n d) ns
of_push {X} xs x d ns below = map_same (λ n. get_or (xs ++ x ∷ []) n d) (λ n. get_or xs n d) ns (λ k z lt. get_or_append_left xs (x ∷ []) d (get_or ns k z) (below k z lt))

-- and its number may be put among them
pub of_put : {X : Type 0} (xs : List X) (x d : X) (ns : List ℕ) (place n : ℕ) → length xs ≡ n → All (λ m. m < n) ns → map (λ m. get_or (xs ++ x ∷ []) m d) (insert ns place n) ≡ insert (map (λ m. get_or xs m d) ns) place x
of_put {X} xs x d ns place n same below =
    rw (map-insert (λ m. get_or (xs ++ x ∷ []) m d) ns place n, of_push xs x d ns (rw same below), get_or_push xs x d n same) refl

-- one more identifier, with its row
pub order_push : (ids : List BlobId) (ns : List ℕ) (id : BlobId) → IsOrder ids ns → IsOrder (ids ++ id ∷ []) ns
order_push ids ns id i = record {
  below = λ k d lt. omega (arith, i.below k d lt, length-append ids (id ∷ []));
  ascends = subst Ascends (sym (of_push ids id _ ns i.below)) i.ascends;
}

pub table_push : (ids : List BlobId) (rows : List Row) (order live : List ℕ) (place : ℕ) (id : BlobId) (row : Row) → IsTable ids rows order live → IsInsertionPoint (ids_of ids order) id place
    → IsTable (ids ++ id ∷ []) (rows ++ row ∷ []) (insert order place (length ids)) live
table_push ids rows order live place id row t gap =
    let fits : place ≤ length order = omega (arith, gap.within, length-map order (id_of ids)) in
    let more : length (ids ++ id ∷ []) ≡ length ids + 1 = length-append ids (id ∷ []) in
    record {
      beside = omega (arith, t.beside, more, length-append rows (row ∷ []));
      whole = omega (arith, t.whole, more, length-insert order place (length ids) fits);
      few = omega (arith, t.few, more);
      each = λ n lt. elim (cases_lt n (length ids)) [
        | inl below ↦ in_inserted order place (length ids) n fits (t.each n below)
        | inr above ↦ let e : length ids ≡ n = omega (arith, more) in subst (λ (m : ℕ). Contains (insert order place (length ids)) m) e (new_inserted order place (length ids) fits)
      ];
      ordered = record {
        below = All-insert (λ n. n < length (ids ++ id ∷ [])) order place (length ids) (λ k d lt. omega (arith, t.ordered.below k d lt, more)) (omega (arith, more));
        ascends = subst Ascends (sym (of_put ids id _ order place (length ids) refl t.ordered.below ∙ gap.inserted)) (id_inserted_ascends (ids_of ids order) id t.ordered.ascends);
      };
      alive = order_push ids live id t.alive;
    }

-- a table with other numbers of live identifiers
live_table : (ids : List BlobId) (rows : List Row) (order live new : List ℕ) → IsTable ids rows order live → IsOrder ids new → IsTable ids rows order new
live_table ids rows order live new t alive = let few = few_numbers ids new alive in assumption

-- one more live identifier: there is room for it, and it stands among those that are live
pub record Wakes (ids : List BlobId) (rows : List Row) (order live new : List ℕ) (id : BlobId) : Type 0 where
  pub room : length live + 1 ≤ length ids
  pub table : IsTable ids rows order new
  pub lives : ids_of ids new ≡ insert_key id_cmp (ids_of ids live) id

-- a row that was retired is live again
pub wakes : (ids xs : List BlobId) (rows : List Row) (order live new : List ℕ) (place number : ℕ) (id : BlobId) → IsTable ids rows order live
    → IsInsertionPoint (ids_of ids live) id place → xs ≡ ids → number < length xs → id_of xs number ≡ id → new ≡ insert live place number → Wakes ids rows order live new id
wakes ids xs rows order live new place number id t gap xs_are below stands new_are =
    let is : id_of ids number ≡ id = ap (λ (l : List BlobId). id_of l number) (sym xs_are) ∙ stands in
    let within : number < length ids = subst (λ (l : List BlobId). number < length l) xs_are below in
    let lives = map-insert (id_of ids) live place number ∙ ap (λ (y : BlobId). insert (ids_of ids live) place y) is ∙ gap.inserted in
    let alive : IsOrder ids (insert live place number) = record {
      below = All-insert (λ n. n < length ids) live place number t.alive.below within;
      ascends = subst Ascends (sym lives) (id_inserted_ascends (ids_of ids live) id t.alive.ascends);
    } in
    let few = few_numbers ids (insert live place number) alive in
    rw new_are (record {
      room = omega (arith, few, length-insert live place number (omega (arith, gap.within, length-map live (id_of ids))));
      table = live_table ids rows order live (insert live place number) t alive;
      lives = lives;
    })

-- a table whose live identifiers change
pub live_changed : (was new : Rows) (change : Rows → List BlobId) (live : List BlobId) → was ≡ new → live ≡ change was → record was { live = live } ≡ record new { live = change new }
live_changed was new change live is same = ap {B = Rows} (λ (l : List BlobId). record was { live = l }) same ∙ ap {B = Rows} (λ (t : Rows). record t { live = change t }) is

-- the row of a number is that of its identifier
pub row_numbered : (ids : List BlobId) (rows : List Row) (order live : List ℕ) (n : ℕ) → IsTable ids rows order live → n < length ids → row_beside (ids_of ids order) (map (row_of rows) order) (id_of ids n) ≡ row_of rows n
row_numbered ids rows order live n t lt =
    let (place, within, at) = t.each n lt in cc (
      at,
      get_or-map (id_of ids) order place n (id_of ids n) within,
      get_or-map (row_of rows) order place n (row_of rows n) within,
      beside_at (ids_of ids order) (map (row_of rows) order) place (id_of ids n) (row_of rows n) t.ordered.ascends (omega (arith, length-map order (id_of ids), length-map order (row_of rows))) (omega (arith, length-map order (id_of ids))),
    )

-- fewer live identifiers: those whose rows pass
pub retires : (ids : List BlobId) (rows rs : List Row) (order live new : List ℕ) (test : Row → Bool) → IsTable ids rows order live → rs ≡ rows → new ≡ filter (λ n. test (row_of rs n)) live
    → IsTable ids rows order new × (ids_of ids new ≡ filter (λ id. test (row_beside (ids_of ids order) (map (row_of rows) order) id)) (ids_of ids live))
retires ids rows rs order live new test t rs_are new_are =
    let passes : ℕ → Bool = λ n. test (row_of rows n) in
    let passed : BlobId → Bool = λ id. test (row_beside (ids_of ids order) (map (row_of rows) order) id) in
    let same : ids_of ids (filter passes live) ≡ filter passed (ids_of ids live) =
    filter_mapped (id_of ids) passes passed live (λ k d lt. ap test (sym (row_numbered ids rows order live (get_or live k d) t (t.alive.below k d lt)))) in
    let alive : IsOrder ids (filter passes live) = record {
      below = All-filter passes (λ n. n < length ids) live t.alive.below;
      ascends = subst Ascends (sym same) (IsStrictlySortedBy-filter id_cmp passed (ids_of ids live) t.alive.ascends);
    } in
    rw (new_are, rs_are) (live_table ids rows order live (filter passes live) t alive, same)

-- an empty table
pub table_new : (ids : List BlobId) (rows : List Row) (order live : List ℕ) → ids ≡ [] → rows ≡ [] → order ≡ [] → live ≡ [] → IsTable ids rows order live
table_new [] [] [] [] no_ids no_rows no_order no_live =
    let none : IsOrder [] [] = record { below = All-nil (λ n. n < 0); ascends = ascends_nil } in
    record { beside = refl; whole = refl; few = omega arith; each = λ n lt. absurd (omega arith); ordered = none; alive = none }
table_new ids rows order live no_ids no_rows no_order no_live = absurd cc

-- a place is one of the order, and its number one of a row
placed : (ids : List BlobId) (rows : List Row) (order live : List ℕ) (id : BlobId) (place number : ℕ) → IsTable ids rows order live → IsPlace (ids_of ids order) id place → number ≡ get_or order place number
    → (place < length order) × (number < length rows)
placed ids rows order live id place number t found is =
    let within : place < length order = omega (arith, found.within, length-map order (id_of ids)) in
    (within, omega (arith, t.beside, is, t.ordered.below place number within))

-- the row that is found
pub find_row : (ids : List BlobId) (rows : List Row) (order live : List ℕ) (id : BlobId) (place number : ℕ) (row : Row) → IsTable ids rows order live → IsPlace (ids_of ids order) id place → number ≡ get_or order place number → row ≡ get_or rows number row
    → row ≡ row_beside (ids_of ids order) (map (row_of rows) order) id
find_row ids rows order live id place number row t found is at =
    let within = placed ids rows order live id place number t found is in
    at
    ∙ get_or_default rows number row _ within.1
    ∙ ap (row_of rows) is
    ∙ sym (get_or-map (row_of rows) order place number row within.0)
    ∙ sym (beside_place (ids_of ids order) (map (row_of rows) order) id place row (omega (arith, length-map order (id_of ids), length-map order (row_of rows))) found.within found.here found.before)

-- another row for it
pub rows_set : (ids : List BlobId) (rows : List Row) (order live : List ℕ) (id : BlobId) (place number : ℕ) (row : Row) (q : BlobId) → IsTable ids rows order live → IsPlace (ids_of ids order) id place → number ≡ get_or order place number
    → row_beside (ids_of ids order) (map (row_of (slice_set rows number row)) order) q ≡ cond (id_eq id q) row (row_beside (ids_of ids order) (map (row_of rows) order) q)
rows_set ids rows order live id place number row q t found is =
    let within = placed ids rows order live id place number t found is in
    let here : get_or order place 0 ≡ number = get_or_default order place 0 number within.0 ∙ sym is in
    ap (λ (l : List Row). row_beside (ids_of ids order) l q) (set_row rows number row order place within.1 within.0 here (λ j lt ne same. apart ids order place j t.ordered.ascends within.0 lt ne (same ∙ sym here)))
    ∙ beside_set (ids_of ids order) (map (row_of rows) order) id place row q (omega (arith, length-map order (id_of ids), length-map order (row_of rows))) found.within found.here found.before

-- the row of a new one
pub rows_push : (ids : List BlobId) (rows : List Row) (order live : List ℕ) (id : BlobId) (place : ℕ) (row : Row) (q : BlobId) → IsTable ids rows order live → IsInsertionPoint (ids_of ids order) id place
    → row_beside (ids_of (ids ++ id ∷ []) (insert order place (length ids))) (map (row_of (rows ++ row ∷ [])) (insert order place (length ids))) q ≡ cond (id_eq id q) row (row_beside (ids_of ids order) (map (row_of rows) order) q)
rows_push ids rows order live id place row q t gap =
    ap (λ (l : List BlobId). row_beside l (map (row_of (rows ++ row ∷ [])) (insert order place (length ids))) q) (of_put ids id _ order place (length ids) refl t.ordered.below)
    ∙ ap (λ (l : List Row). row_beside (insert (ids_of ids order) place id) l q) (of_put rows row _ order place (length ids) t.beside t.ordered.below)
    ∙ beside_insert (ids_of ids order) (map (row_of rows) order) id place row q (omega (arith, length-map order (id_of ids), length-map order (row_of rows))) gap.within gap.absent

-- one that is there is not missed
pub missed : (ids : List BlobId) (id : BlobId) (place : ℕ) → IsInsertionPoint ids id place → Contains ids id → ⊥
missed ids id place gap (k, lt, at) =
    let differ = gap.absent k id lt in
    let alike = ap (λ (i : BlobId). id_eq i id) at ∙ id_itself id in
    cc

-- the table, its identifiers and its rows after one more, by the lists that a call leaves
pub record Pushed (ids xs : List BlobId) (rows rs : List Row) (order ns live : List ℕ) (id : BlobId) (row : Row) : Type 0 where
  pub table : IsTable xs rs ns live
  pub ids_are : ids_of xs ns ≡ insert_key id_cmp (ids_of ids order) id
  pub rows_are : (q : BlobId) → row_beside (ids_of xs ns) (map (row_of rs) ns) q ≡ cond (id_eq id q) row (row_beside (ids_of ids order) (map (row_of rows) order) q)
  pub live_stays : ids_of xs live ≡ ids_of ids live

-- a table with one more row at its place
pub pushed : (ids xs : List BlobId) (rows rs : List Row) (order ns live : List ℕ) (place number : ℕ) (id : BlobId) (row : Row) → IsTable ids rows order live → IsInsertionPoint (ids_of ids order) id place → number ≡ length ids
    → xs ≡ ids ++ id ∷ [] → rs ≡ rows ++ row ∷ [] → ns ≡ insert order place number → Pushed ids xs rows rs order ns live id row
pushed ids xs rows rs order ns live place number id row t gap is xs_are rs_are ns_are =
    rw (xs_are, rs_are, ns_are, is) (record {
      table = table_push ids rows order live place id row t gap;
      ids_are = of_put ids id _ order place (length ids) refl t.ordered.below ∙ gap.inserted;
      rows_are = λ q. rows_push ids rows order live id place row q t gap;
      live_stays = of_push ids id _ live t.alive.below;
    })
