-- Each holding of a keep has a part.
use Rattle.wal_store.proofs.Common.{◌≡◌, ℕ, ◌+◌, ◌-◌, ◌≤◌, Bool, true, false, not, cond, Option, Some, None, Ok, Err, List, length, slice_get, IfSome, is_some, unwrap_or, refl, sym, ap, ◌∙◌, arith, ForSome, IsStrictlySortedBy, keys_of, remove_entry, is_at, insert_entry, nat_tests, BlobId, Part, Full, Budget, id_cmp, Parts, no_parts, part_of, with_part, is_empty, pages_for, Contents, StoreState, parts_at, part_at, with_bytes, without_part, cost, free_of, needed_for, HasRoom, IsPutAnswer, Entries, found_in, parts_in, cost_in, needed_in, changed_in, AreKept, InBudget, room_answer, zero, suc, [], ◌∷◌, Less, option_map, eq_by_cmp_equiv, sum_by-insert_entry, sum_by-remove_entry, part_cost, cost_of, cost_at, freed_in, ◌<◌, Result, IfOk, IfErr, get_or, inl, inr, filter, ordering_reverse, IsSearchInRange, IsBinarySearchResult, length-map, Less-from_sorted, slice_get-map, slice_get-get_or, slice_get_within, get_or_from_slice_get, cases_order, cases_Bool, row_of, rows_at, IsGap, ids_of, Row, key_past, past_bound, is_past, next_id, cond_both}
use Rattle.std.specs.Option.{option_map}
use Rattle.std.specs.FinMap as fin
use Rattle.wal_store.specs.declared.contract.KeepError.{KeepError}
use Rattle.wal_store.proofs.EntriesLaws.{entries_view, len_view, get_view, insert_view, remove_view}
use Rattle.wal_store.proofs.IdentifierLaws.{ids_total, exact_ids}
use Rattle.std.specs.Ordering.{is_lt}
use Rattle.std.specs.declared.ops.Bound.{Bound}
use Rattle.std.specs.declared.ops.Bound.TheVariants.{Unbounded}
use Rattle.std.specs.BTreeMap.Range.{range_contains, entries_between}
use Rattle.std.proofs.lemmas.List.Sorted.{searchable_from_sorted}
use Rattle.std.proofs.lemmas.Cmp.{tied_itself}

pub kept_insert : (es : Entries) (id : BlobId) (p : Parts) → AreKept es → is_empty p ≡ false → AreKept (insert_entry id_cmp es id p)
kept_insert [] id p kept some = (some, tt)
kept_insert (e ∷ es) id p kept some = grind (arith, kept_insert es id p kept.1 some)

pub kept_put : (es : Entries) (id : BlobId) (part : Part) (bytes : List ℕ) → AreKept es → AreKept (insert_entry id_cmp es id (with_part (parts_in es id) part (Some bytes)))
kept_put es id part bytes kept = kept_insert es id (with_part (parts_in es id) part (Some bytes)) kept (grind arith)

pub kept_remove : (es : Entries) (id : BlobId) → AreKept es → AreKept (remove_entry (is_at (id_cmp id)) es)
kept_remove [] id kept = tt
kept_remove (e ∷ es) id kept = grind (arith, kept_remove es id kept.1)

pub kept_changed : (es : Entries) (id : BlobId) (p : Parts) → AreKept es → AreKept (changed_in es id p)
kept_changed es id p kept =
    cond_both (is_empty p) (remove_entry (is_at (id_cmp id)) es) (insert_entry id_cmp es id p) AreKept
    (λ none. kept_remove es id kept) (λ some. kept_insert es id p kept some)

-- the holding of an identifier that is there has a part
pub kept_at : (es : Entries) (id : BlobId) (i : ℕ) → AreKept es → slice_get (keys_of es) i ≡ Some id → is_empty (parts_in es id) ≡ false
kept_at [] id i kept at = cc
kept_at (e ∷ es) id zero kept at =
    let same : e.0 ≡ id = cc in grind (arith, ap (id_cmp id) same, (eq_by_cmp_equiv ids_total).refl id, kept.0)
kept_at (e ∷ es) id (suc i) kept at = grind (arith, kept.0, kept_at es id i kept.1 at)

-- a holding that is found has a part
pub kept_found : (es : Entries) (id : BlobId) (p : Parts) → AreKept es → found_in es id ≡ Some p → is_empty p ≡ false
kept_found [] id p kept found = cc
kept_found (e ∷ es) id p kept found = grind (arith, kept.0, kept_found es id p kept.1)

-- ---- What a change of one holding does to the pages of all.

-- one part more, one less
pub part_swap : (p : Parts) (part : Part) (bytes : Option (List ℕ)) → cost_of (with_part p part bytes) + part_cost (part_of p part) ≡ cost_of p + part_cost bytes
part_swap p part bytes = grind arith

-- to take a part from no parts leaves none
pub empty_still : (part : Part) → is_empty (with_part no_parts part None) ≡ true
empty_still part = grind arith

pub remove_cost : (es : Entries) (id : BlobId) → cost_in (remove_entry (is_at (id_cmp id)) es) + cost_at es id ≡ cost_in es
remove_cost es id = sum_by-remove_entry cost_of (is_at (id_cmp id)) es

-- the cost of the holding under an identifier, and the page that a new one needs
cost_parts : (o : Option Parts)
    → unwrap_or (option_map cost_of o) 0 + cond (is_some o) 0 1 ≡ cost_of (unwrap_or o no_parts)
cost_parts o = grind arith

-- a part that is put costs what it needs
pub put_cost : (es : Entries) (id : BlobId) (part : Part) (bytes : List ℕ) → IsStrictlySortedBy id_cmp (keys_of es) → part_of (parts_in es id) part ≡ None → cost_in (insert_entry id_cmp es id (with_part (parts_in es id) part (Some bytes))) ≡ cost_in es + needed_in es id (length bytes)
put_cost es id part bytes sorted absent =
    let p : Parts = parts_in es id in
    let put = sum_by-insert_entry cost_of ids_total es id (with_part p part (Some bytes)) sorted in
    omega (arith, put, part_swap p part (Some bytes), ap part_cost absent, cost_parts (found_in es id))

-- a part that goes frees its pages, and the last one the holding's page too
pub clear_cost : (es : Entries) (id : BlobId) (part : Part) → IsStrictlySortedBy id_cmp (keys_of es) → cost_in (changed_in es id (with_part (parts_in es id) part None)) + freed_in es id part ≡ cost_in es
clear_cost es id part sorted =
    let p : Parts = with_part (parts_in es id) part None in
    let put = sum_by-insert_entry cost_of ids_total es id p sorted in
    let low : found_in es id ≡ None → is_empty p ≡ true =
    λ none. ap (λ o. is_empty (with_part (unwrap_or o no_parts) part None)) none ∙ empty_still part in
    grind (arith, remove_cost es id, cost_parts (found_in es id), part_swap (parts_in es id) part None)

-- ---- What is seen of a keep whose holdings stand in order.

-- holdings in order, and the contents that they make
pub record Shows (es : Entries) (m : Contents) : Type 0 where
  pub sorted : IsStrictlySortedBy id_cmp (keys_of es)
  pub view : fin.from_sorted {R = id_cmp} es ≡ m

-- what a keep's view says of its entries
pub shows_of : {es : Entries} {limit : Option ℕ} {s : StoreState} → IsStrictlySortedBy id_cmp (keys_of es)
    → ◌≡◌ {A = StoreState} (record { contents = fin.from_sorted {R = id_cmp} es; limit = limit }) s
    → Shows es s.contents
shows_of {es} {limit} {s} sorted view = record { sorted = sorted; view = ap (λ t. t.contents) view }

pub shown_get : {es : Entries} {m : Contents} (id : BlobId) → Shows es m → fin.get m id ≡ found_in es id
shown_get {es} {m} id s = ap (λ n. fin.get n id) (sym s.view) ∙ get_view id_cmp es id s.sorted

pub shown_parts : {es : Entries} {m : Contents} (id : BlobId) → Shows es m → parts_at m id ≡ parts_in es id
shown_parts {es} {m} id s = ap (λ o. unwrap_or o no_parts) (shown_get id s)

pub shown_held : {es : Entries} {m : Contents} (id : BlobId) (part : Part) → Shows es m → part_at m id part ≡ part_of (parts_in es id) part
shown_held {es} {m} id part s = ap (λ p. part_of p part) (shown_parts id s)

pub shown_len : {es : Entries} {m : Contents} → Shows es m → length es ≡ fin.len m
shown_len {es} {m} s = sym (len_view id_cmp es s.sorted) ∙ ap fin.len s.view

pub shown_keys : {es : Entries} {m : Contents} → Shows es m → keys_of es ≡ fin.keys m
shown_keys {es} {m} s = ap keys_of (sym (entries_view id_cmp es s.sorted)) ∙ ap (λ n. fin.keys n) s.view

pub shown_cost : {es : Entries} {m : Contents} → Shows es m → cost m ≡ cost_in es
shown_cost {es} {m} s = ap cost (sym s.view) ∙ ap cost_in (entries_view id_cmp es s.sorted)

pub shown_needed : {es : Entries} {m : Contents} (id : BlobId) (bytes : List ℕ) → Shows es m → needed_for m id bytes ≡ needed_in es id (length bytes)
shown_needed {es} {m} id bytes s = ap (λ o. cond (is_some o) 0 1 + pages_for (length bytes)) (shown_get id s)

-- the cost is within the limit
pub shown_budget : {es : Entries} {m : Contents} (limit : Option ℕ) → Shows es m → ForSome limit (λ most. cost_in es ≤ most) → IfSome limit (λ most. cost m ≤ most)
shown_budget {es} {m} limit s within = grind (arith, shown_cost s)

pub budget_most : (budget : Option Budget) (limit : Option ℕ) (cost : ℕ) → InBudget budget cost → option_map {T = Budget} (λ b. b.limit) budget ≡ limit → ForSome limit (λ most. cost ≤ most)
budget_most budget limit cost within is most at = grind arith

-- the holding of an identifier that is there has a part
pub shown_kept : {es : Entries} {m : Contents} (id : BlobId) (i : ℕ) → Shows es m → AreKept es → slice_get (keys_of es) i ≡ Some id → is_empty (parts_at m id) ≡ false
shown_kept {es} {m} id i s kept at = ap is_empty (shown_parts id s) ∙ kept_at es id i kept at

there_by : (o : Option Parts) → ((p : Parts) → o ≡ Some p → is_empty p ≡ false) → is_some o ≡ not (is_empty (unwrap_or o no_parts))
there_by o some = grind arith

-- an identifier has a holding exactly where a part is held under it
pub shown_there : {es : Entries} {m : Contents} (id : BlobId) → Shows es m → AreKept es → fin.contains_key m id ≡ not (is_empty (parts_at m id))
shown_there {es} {m} id s kept =
    cc (shown_get id s, there_by (found_in es id) (λ p found. kept_found es id p kept found))

-- holdings after a change, and the contents that they make
module _ {es now : Entries} {m : Contents} (id : BlobId) (s : Shows es m) where
  shown_insert : (p : Parts) → now ≡ insert_entry id_cmp es id p → fin.from_sorted {R = id_cmp} now ≡ fin.insert m id p
  shown_insert p change = cc (insert_view id_cmp ids_total es id p s.sorted)

  pub shown_put : (part : Part) (bytes : List ℕ)
      → now ≡ insert_entry id_cmp es id (with_part (parts_in es id) part (Some bytes))
      → fin.from_sorted {R = id_cmp} now ≡ with_bytes m id part bytes
  shown_put part bytes change =
      cc (shown_insert (with_part (parts_in es id) part (Some bytes)) change, shown_parts id s)

  pub shown_remove : now ≡ remove_entry (is_at (id_cmp id)) es → IsStrictlySortedBy id_cmp (keys_of now)
      → fin.from_sorted {R = id_cmp} now ≡ fin.remove m id
  shown_remove change after = cc (remove_view id_cmp ids_total exact_ids es id s.sorted (rw change at after))

  pub shown_clear : (part : Part) → now ≡ changed_in es id (with_part (parts_in es id) part None)
      → IsStrictlySortedBy id_cmp (keys_of now) → fin.from_sorted {R = id_cmp} now ≡ without_part m id part
  shown_clear part change after =
      let p : Parts = with_part (parts_in es id) part None in
      elim (cases_Bool (is_empty p)) [
        | inl none ↦ cc (shown_remove (cc) after, shown_parts id s)
        | inr some ↦ cc (shown_insert p (cc), shown_parts id s)
      ]

-- the answer to a put, from the budget
pub has_room : (budget : Option Budget) (n : ℕ) → room_answer budget n ≡ Ok tt → ForSome budget (λ b. n ≤ b.limit - b.used)
has_room budget n e b is = grind (arith, nat_tests)

pub answer_room : (budget : Option Budget) (m : Contents) (n : ℕ) → InBudget budget (cost m) → ForSome budget (λ b. n ≤ b.limit - b.used) → HasRoom (free_of (option_map {T = Budget} (λ b. b.limit) budget) m) n
answer_room budget m n within room = grind arith

pub answer_full : (budget : Option Budget) (want : Bool) (m : Contents) (id : BlobId) (bytes : List ℕ) (n : ℕ) (e : KeepError) → InBudget budget (cost m) → n ≡ needed_for m id bytes → room_answer budget n ≡ Err e → IsPutAnswer (option_map {T = Budget} (λ b. b.limit) budget) want m id bytes (Err e)
answer_full (Some b) want m id bytes n (Full k f) within needed answer = grind (arith, nat_tests, (within b refl).0)
answer_full budget want m id bytes n e within needed answer = grind arith

-- the budget after pages went, and others came
pub recharge_more : (budget : Option Budget) (cost needed : ℕ) → InBudget budget cost → ForSome budget (λ b. needed ≤ b.limit - b.used) → ForSome budget (λ b. (0 ≤ b.used) × (b.used - 0 + needed ≤ b.limit))
recharge_more budget cost needed within room b is = omega (arith, within b is, room b is)

pub recharged_within : (budget now : Option Budget) (cost after gone more : ℕ) → InBudget budget cost → now ≡ option_map {T = Budget} (λ b. record b { used = b.used - gone + more }) budget → after + gone ≡ cost + more → ForSome budget (λ b. (gone ≤ b.used) × (b.used - gone + more ≤ b.limit)) → InBudget now after
recharged_within None now cost after gone more within change moved fits b is = cc
recharged_within (Some a) now cost after gone more within change moved fits b is =
    let same : b ≡ record a { used = a.used - gone + more } = cc in
    rw same (omega (arith, within a refl, fits a refl))

-- where pages went alone
pub recharged_less : (budget : Option Budget) (cost after gone : ℕ) → InBudget budget cost → after + gone ≡ cost
    → ForSome budget (λ b. (gone ≤ b.used) × (b.used - gone + 0 ≤ b.limit))
    × ((now : Option Budget) → now ≡ option_map {T = Budget} (λ b. record b { used = b.used - gone + 0 }) budget
    → InBudget now after)
recharged_less budget cost after gone within change =
    let fits : ForSome budget (λ b. (gone ≤ b.used) × (b.used - gone + 0 ≤ b.limit)) =
    λ b is. omega (arith, within b is) in
    (fits, λ now is. recharged_within budget now cost after gone 0 within is (omega arith) fits)

-- an unused budget has the limit for which it was made
pub unused_limit : (limit : Option ℕ) → option_map {T = Budget} (λ b. b.limit) (option_map {T = ℕ} (λ most. record { limit = most; used = 0 }) limit) ≡ limit
unused_limit limit = grind arith

-- equal contents and limits are equal states of a store
pub store_is : (m n : Contents) (a b : Option ℕ) → m ≡ n → a ≡ b → ◌≡◌ {A = StoreState} (record { contents = m; limit = a }) (record { contents = n; limit = b })
store_is m n a b p q = λ i. record { contents = p i; limit = q i }

-- ---- The first identifier past another one.

-- the identifier at the lower of two places is less
pub in_order : (ids : List BlobId) (i j : ℕ) (x y : BlobId) → IsStrictlySortedBy id_cmp ids → i < j → slice_get ids i ≡ Some x → slice_get ids j ≡ Some y → id_cmp x y ≡ Less
in_order ids i j x y sorted lt at_i at_j =
    let less = Less-from_sorted id_cmp ids i j x sorted lt (slice_get_within ids j y at_j) in
    cc (less, get_or_from_slice_get ids i x x at_i, get_or_from_slice_get ids j y x at_j)

-- the identifier at a place is that of the row there
pub id_at : (rows : List Row) (m : ℕ) (d : Row) → m < length rows → slice_get (ids_of rows) m ≡ Some (get_or rows m d).id
id_at rows m d lt = cc (slice_get-map (λ (r : Row). r.id) rows m, slice_get-get_or rows m d lt)

-- at the place of a number stands the identifier of its row
stands : (S : List Row) (ks : List ℕ) (i d : ℕ) → i < length ks → slice_get (ids_of (rows_at S ks)) i ≡ Some (row_of S (get_or ks i d)).id
stands S ks i d lt =
    cc (slice_get-map (λ (r : Row). r.id) (rows_at S ks) i, slice_get-map (row_of S) ks i, slice_get-get_or ks i d lt)

-- what a binary search through numbers finds, and where one that it does not find belongs
pub numbers_searched : (S : List Row) (ks : List ℕ) (id : BlobId) (r : Result ℕ ℕ) → IsStrictlySortedBy id_cmp (ids_of (rows_at S ks))
    → IsSearchInRange r (length ks) → IsBinarySearchResult (λ k. id_cmp (row_of S k).id id) ks r
    → IfOk r (λ place. slice_get (ids_of (rows_at S ks)) place ≡ Some id) × IfErr r (IsGap id (ids_of (rows_at S ks)))
numbers_searched S ks id (Ok place) sorted lt here =
    let same = exact_ids (row_of S (get_or ks place 0)).id id (here 0) in
    (stands S ks place 0 lt ∙ ap (λ (x : BlobId). Some x) same, tt)
numbers_searched S ks id (Err place) sorted le parted =
    let ids : List BlobId = ids_of (rows_at S ks) in
    let key : ℕ → BlobId = λ k. (row_of S k).id in
    let point = parted (searchable_from_sorted ids_total key ks id (λ i d low high.
    let x : BlobId = key (get_or ks i d) in
    let y : BlobId = key (get_or ks (i + 1) d) in
    ap is_lt (ids_total.antisymm y x ∙ ap ordering_reverse (in_order ids i (i + 1) x y sorted (omega arith) (stands S ks i d (omega arith)) (stands S ks (i + 1) d high))))) in
    let long : length ids ≡ length ks = length-map (rows_at S ks) (λ (r : Row). r.id) ∙ length-map ks (row_of S) in
    let gap : IsGap id ids place = record {
      within = omega (arith, le, long);
      before = λ j y lt at.
          cc (ids_total.antisymm id y, stands S ks j 0 (omega (arith, le)), point.0 j 0 (omega arith) lt);
      after = λ j y ge at.
          let lt : j < length ks = omega (arith, long, slice_get_within ids j y at) in
          cc (ids_total.antisymm id y, stands S ks j 0 lt, point.1 j 0 ge lt);
    } in
    (tt, gap)

-- ---- The first identifier past another one.

-- where those that pass a test begin at a place, the first of them stands there
first_from : (p : BlobId → Bool) (ids : List BlobId) (place : ℕ) → ((j : ℕ) (x : BlobId) → j < place → slice_get ids j ≡ Some x → p x ≡ false)
    → ((j : ℕ) (x : BlobId) → place ≤ j → slice_get ids j ≡ Some x → p x ≡ true) → slice_get (filter p ids) 0 ≡ slice_get ids place
first_from p [] place before after = refl
first_from p (x ∷ ids) zero before after = cc (after 0 x (omega arith) refl)
first_from p (x ∷ ids) (suc place) before after =
    let rest = first_from p ids place (λ j y lt at. before (suc j) y (omega arith) at)
    (λ j y ge at. after (suc j) y (omega arith) at) in
    cc (before 0 x (omega arith) refl, rest)

-- past none at all is the first
pub past_none : (ids : List BlobId) → slice_get (filter (is_past None) ids) 0 ≡ slice_get ids 0
past_none ids = first_from (is_past None) ids 0 (λ j x lt at. absurd (omega arith)) (λ j x ge at. refl)

-- past one that is there stands the one behind it
pub past_found : (ids : List BlobId) (id : BlobId) (place : ℕ) → IsStrictlySortedBy id_cmp ids → slice_get ids place ≡ Some id
    → slice_get (filter (is_past (Some id)) ids) 0 ≡ slice_get ids (place + 1)
past_found ids id place sorted found = first_from (is_past (Some id)) ids (place + 1) before after
  where
    before : (j : ℕ) (x : BlobId) → j < place + 1 → slice_get ids j ≡ Some x → is_lt (id_cmp id x) ≡ false
    before j x lt at = elim (cases_order j place) [
      | inl same ↦ let is : x ≡ id = cc in ap (λ y. is_lt (id_cmp id y)) is ∙ ap is_lt (tied_itself ids_total id)
      | inr (inl less) ↦ ap is_lt (ids_total.antisymm id x ∙ ap ordering_reverse (in_order ids j place x id sorted less at found))
      | inr (inr more) ↦ absurd (omega arith)
    ]

    after : (j : ℕ) (x : BlobId) → place + 1 ≤ j → slice_get ids j ≡ Some x → is_lt (id_cmp id x) ≡ true
    after j x ge at = ap is_lt (in_order ids place j id x sorted (omega arith) found at)

-- past one that is missing stands the one at its place
pub past_gap : (ids : List BlobId) (id : BlobId) (place : ℕ) → IsGap id ids place → slice_get (filter (is_past (Some id)) ids) 0 ≡ slice_get ids place
past_gap ids id place gap = first_from (is_past (Some id)) ids place (λ j x lt at. ap is_lt (gap.before j x lt at)) (λ j x ge at. ap is_lt (gap.after j x ge at))

-- a range that begins past an identifier
in_range : (last : Option BlobId) (k : BlobId) → range_contains id_cmp (past_bound last) Unbounded k ≡ is_past last k
in_range last k = grind arith

first_in_range : (last : Option BlobId) (es : Entries)
    → key_past es last ≡ option_map (λ e. e.0) (slice_get (entries_between id_cmp (past_bound last) Unbounded es) 0)
first_in_range last [] = refl
first_in_range last (e ∷ es) = grind (arith, in_range last e.0, first_in_range last es)

-- the first of a range that begins there
pub key_in_range : (last : Option BlobId) (start : Bound BlobId) (es range : Entries) → start ≡ past_bound last → range ≡ entries_between id_cmp start Unbounded es
    → option_map (λ e. e.0) (slice_get range 0) ≡ key_past es last
key_in_range last start es range begins is = cc (first_in_range last es)

-- the first that passes a test, at its place
pub record IsFirstAt (p : BlobId → Bool) (ids : List BlobId) (id : BlobId) (place : ℕ) : Type 0 where
  pub at : slice_get ids place ≡ Some id
  pub passes : p id ≡ true
  pub before : (j : ℕ) (x : BlobId) → j < place → slice_get ids j ≡ Some x → p x ≡ false

first_behind : (p : BlobId → Bool) (x : BlobId) (ids : List BlobId) (id : BlobId) → p x ≡ false → (place : ℕ) → IsFirstAt p ids id place → IsFirstAt p (x ∷ ids) id (suc place)
first_behind p x ids id fails place rest = record { at = rest.at; passes = rest.passes; before = before }
  where
    before : (j : ℕ) (y : BlobId) → j < suc place → slice_get (x ∷ ids) j ≡ Some y → p y ≡ false
    before zero y lt at = let is : x ≡ y = cc in cc (ap p is)
    before (suc j) y lt at = rest.before j y (omega arith) at

-- the first identifier that passes a filter stands at some place as the first that does
pub first_at : (p : BlobId → Bool) (ids : List BlobId) (id : BlobId) → slice_get (filter p ids) 0 ≡ Some id → (place : ℕ) × IsFirstAt p ids id place
first_at p [] id found = cc
first_at p (x ∷ ids) id found = elim (cases_Bool (p x)) [
  | inl passes ↦
      let is : x ≡ id = cc in
      (0, record { at = cc; passes = cc (ap p is); before = λ j y lt at. absurd (omega arith) })
  | inr fails ↦ let rest = first_at p ids id (cc) in (suc rest.0, first_behind p x ids id fails rest.0 rest.1)
]

pub shown_next : {es : Entries} {m : Contents} (last : Option BlobId) → Shows es m → key_past es last ≡ next_id m last
shown_next {es} {m} last s = ap (λ ks. slice_get (filter (is_past last) ks) 0) (shown_keys s)

-- the holding of the one that is next has a part
pub next_kept : {es : Entries} {m : Contents} (last found : Option BlobId) → Shows es m → AreKept es → found ≡ key_past es last → IfSome found (λ id. is_empty (parts_at m id) ≡ false)
next_kept {es} {m} last None s kept is = tt
next_kept {es} {m} last (Some id) s kept is =
    let first = first_at (is_past last) (keys_of es) id (sym is) in
    shown_kept id first.0 s kept first.1.at
