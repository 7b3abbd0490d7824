-- The identifiers that are live.
use Rattle.wal_ledger.proofs.Common.{cases_Bool, ◌≡◌, ℕ, zero, suc, Bool, true, false, cond, List, [], ◌∷◌, ◌++◌, filter, fold, Contains, ◌⊎◌, inl, inr, refl, sym, ap, ◌∙◌, subst, arith, Ordering, Less, Equal, Greater, match_ordering, insert_key, ltb-true, cond_both, IsStrictlySortedBy-filter, BlobId, Entry, Body, Register, Ack, Attest, Ascends, Log, History, until_in, until_among, history_after, is_live, reading, until_of, with_registered, registered, live_ids, id_cmp, id_eq, ◌+◌, ◌<◌, nat_lt, AllByRecursion, IsStrictlySortedBy, lt-ltb, nat_tests, All-filter, All-from_recursion, recursion_from_All, filter_agree, Row, Rows, row_in, row_registered, living}
use Rattle.wal_ledger.proofs.Order.{ascends_nil, id_inserted_ascends, ids_total, insert_key_by, all_above}
use Rattle.wal_ledger.proofs.Handover.{until_push}
use Rattle.wal_ledger.proofs.RowsPlace.{exact_ids, id_same, id_itself, id_tied}

-- identifiers in a list
head_in : (x : BlobId) (xs : List BlobId) (y : BlobId) → x ≡ y → Contains (x ∷ xs) y
head_in x xs y same = (0, omega arith, same)

tail_in : (x : BlobId) (xs : List BlobId) (y : BlobId) → Contains xs y → Contains (x ∷ xs) y
tail_in x xs y (k, lt, at) = (suc k, omega arith, at)

-- one that is put in is there, and so are those that were
pub put_in : (ks : List BlobId) (k y : BlobId) → (k ≡ y) ⊎ Contains ks y → Contains (insert_key id_cmp ks k) y
put_in [] k y (inl same) = head_in k [] y same
put_in [] k y (inr (i, lt, at)) = absurd (omega arith)
put_in (x ∷ xs) k y known = by (id_cmp k x) refl known (put_in xs k y)
  where
    by : (r : Ordering) → id_cmp k x ≡ r → (k ≡ y) ⊎ Contains (x ∷ xs) y → ((k ≡ y) ⊎ Contains xs y → Contains (insert_key id_cmp xs k) y)
        → Contains (match_ordering r (k ∷ x ∷ xs) (x ∷ xs) (x ∷ insert_key id_cmp xs k)) y
    by Less h (inl same) rest = head_in k (x ∷ xs) y same
    by Less h (inr there) rest = tail_in k (x ∷ xs) y there
    by Equal h (inl same) rest = head_in x xs y (sym (exact_ids k x h) ∙ same)
    by Equal h (inr there) rest = there
    by Greater h (inl same) rest = tail_in x (insert_key id_cmp xs k) y (rest (inl same))
    by Greater h (inr (zero, lt, at)) rest = head_in x (insert_key id_cmp xs k) y at
    by Greater h (inr (suc j, lt, at)) rest = tail_in x (insert_key id_cmp xs k) y (rest (inr (j, omega arith, at)))

passes_in : (p : BlobId → Bool) (xs : List BlobId) (y : BlobId) → p y ≡ true → Contains xs y → Contains (filter p xs) y
passes_in p [] y passes (i, lt, at) = absurd (omega arith)
passes_in p (x ∷ xs) y passes (zero, lt, at) =
    subst (λ b. Contains (cond b (x ∷ filter p xs) (filter p xs)) y) (sym (ap p at ∙ passes)) (head_in x (filter p xs) y at)
passes_in p (x ∷ xs) y passes (suc j, lt, at) =
    let there = passes_in p xs y passes (j, omega arith, at) in
    cond_both (p x) (x ∷ filter p xs) (filter p xs) (λ l. Contains l y) (λ h. tail_in x (filter p xs) y there) (λ h. there)

-- an identifier whose own entries have an `until` was registered
Known : History → List BlobId → BlobId → Type 0
Known c ids id = (until_among c.own ≡ 0) ⊎ Contains ids id

known_other : (id : BlobId) (own : List Entry) (x : Entry) (ids : List BlobId) (named : Bool) → until_in x.body ≡ 0 → (until_among own ≡ 0) ⊎ Contains ids id → (until_among (cond named (own ++ x ∷ []) own) ≡ 0) ⊎ Contains ids id
known_other id own x ids named none known = grind (arith, until_push own x)

known_step : (id : BlobId) (c : History) (ids : List BlobId) (body : Body) (e : ℕ) → let x : Entry = record { epoch = e; body = body } in Known c ids id → Known (history_after id c x) (with_registered ids body) id
unfolding Known
known_step id c ids (Register i until) e (inr there) = inr (put_in ids i id (inr there))
known_step id c ids (Register i until) e (inl zeroed) = elim (cases_Bool (id_eq i id)) [
  | inl same ↦ inr (put_in ids i id (inl (id_same i id same)))
  | inr differ ↦ inl (rw differ zeroed)
]
known_step id c ids (Ack shard i) e known = known_other id c.own (record { epoch = e; body = Ack shard i }) ids (id_eq i id) refl known
known_step id c ids (Attest shard i) e known = known_other id c.own (record { epoch = e; body = Attest shard i }) ids (id_eq i id) refl known
known_step id c ids _ e known = known

known_from : (id : BlobId) (c : History) (ids : List BlobId) (xs : List Entry) → Known c ids id → Known (fold (history_after id) c xs) (fold (λ l (y : Entry). with_registered l y.body) ids xs) id
known_from id c ids [] known = known
known_from id c ids (x ∷ xs) known = known_from id (history_after id c x) (with_registered ids x.body) xs (known_step id c ids x.body x.epoch known)

-- the registered identifiers ascend
with_ascends : (ids : List BlobId) (body : Body) → Ascends ids → Ascends (with_registered ids body)
with_ascends ids (Register i until) s = id_inserted_ascends ids i s
with_ascends ids _ s = s

ascends_from : (ids : List BlobId) (xs : List Entry) → Ascends ids → Ascends (fold (λ l (y : Entry). with_registered l y.body) ids xs)
ascends_from ids [] s = s
ascends_from ids (x ∷ xs) s = ascends_from (with_registered ids x.body) xs (with_ascends ids x.body s)

pub registered_ascends : (xs : List Entry) → Ascends (registered xs)
registered_ascends xs = ascends_from [] xs ascends_nil

-- so the live ones do
pub live_ids-ascends : (log : Log) → Ascends (live_ids log)
live_ids-ascends log = IsStrictlySortedBy-filter id_cmp (is_live log) (registered log.entries) (registered_ascends log.entries)

-- and each live one is among them
pub live_ids-complete : (log : Log) (id : BlobId) → is_live log id ≡ true → Contains (live_ids log) id
unfolding Known
live_ids-complete log id live = elim (known_from id (record { epoch = log.first; own = [] }) [] log.entries (inl refl)) [
  | inl zeroed ↦ absurd (omega (arith, ltb-true (reading log) (until_of log id) live))
  | inr there ↦ passes_in (is_live log) (registered log.entries) id live there
]

-- ---- The live identifiers of a table after each kind of entry.

-- what is below all goes first
insert_first : (k : BlobId) (ks : List BlobId) → AllByRecursion (λ y. id_cmp k y ≡ Less) ks → insert_key id_cmp ks k ≡ k ∷ ks
insert_first k [] all = refl
insert_first k (x ∷ xs) all = insert_key_by ids_total x k xs Less all.0

all_filter : (P : BlobId → Type 0) (p : BlobId → Bool) (ks : List BlobId) → AllByRecursion P ks → AllByRecursion P (filter p ks)
all_filter P p ks all = recursion_from_All P (filter p ks) (All-filter p P ks (All-from_recursion P ks all))

-- a test that passes one more passes above it what it passed
above_same : (p q : BlobId → Bool) (k : BlobId) (ks : List BlobId) → ((x : BlobId) → q x ≡ cond (id_eq k x) true (p x)) → AllByRecursion (λ y. id_cmp k y ≡ Less) ks → filter q ks ≡ filter p ks
above_same p q k [] more all = refl
above_same p q k (x ∷ xs) more all = rw (more x ∙ ap (λ b. cond b true (p x)) (id_tied k x Less all.0), above_same p q k xs more all.1) refl

-- one more that passes, put at its place before or after the others are left out
pub filter_more : (p q : BlobId → Bool) (ks : List BlobId) (k : BlobId) → Ascends ks → ((x : BlobId) → q x ≡ cond (id_eq k x) true (p x)) → filter q (insert_key id_cmp ks k) ≡ insert_key id_cmp (filter p ks) k
unfolding IsStrictlySortedBy
filter_more p q [] k s more = ap (λ b. cond b (k ∷ []) []) (more k ∙ ap (λ b. cond b true (p k)) (id_itself k))
filter_more p q (x ∷ xs) k s more = by (id_cmp k x) refl (filter_more p q xs k s.1 more)
  where
    passes : q k ≡ true
    passes = more k ∙ ap (λ b. cond b true (p k)) (id_itself k)

    here : (b : Bool) → k ≡ x → id_cmp k x ≡ Equal → x ∷ filter p xs ≡ insert_key id_cmp (cond b (x ∷ filter p xs) (filter p xs)) k
    here true e h = sym (insert_key_by ids_total x k (filter p xs) _ h)
    here false e h =
        ap (λ y. y ∷ filter p xs) (sym e)
        ∙ sym (insert_first k (filter p xs) (subst (λ (y : BlobId). AllByRecursion (λ z. id_cmp y z ≡ Less) (filter p xs)) (sym e) (all_filter (λ z. id_cmp x z ≡ Less) p xs s.0)))

    by : (r : Ordering) → id_cmp k x ≡ r → filter q (insert_key id_cmp xs k) ≡ insert_key id_cmp (filter p xs) k
        → filter q (match_ordering r (k ∷ x ∷ xs) (x ∷ xs) (x ∷ insert_key id_cmp xs k)) ≡ insert_key id_cmp (filter p (x ∷ xs)) k
    by Less h rest =
        let all : AllByRecursion (λ y. id_cmp k y ≡ Less) (x ∷ xs) = (h, all_above ids_total x k xs h s.0) in
        rw (passes, above_same p q k (x ∷ xs) more all) (sym (insert_first k (filter p (x ∷ xs)) (all_filter (λ y. id_cmp k y ≡ Less) p (x ∷ xs) all)))
    by Equal h rest =
        let e : k ≡ x = exact_ids k x h in
        let above : AllByRecursion (λ y. id_cmp k y ≡ Less) xs = subst (λ (y : BlobId). AllByRecursion (λ z. id_cmp y z ≡ Less) xs) (sym e) s.0 in
        rw (ap q (sym e) ∙ passes, above_same p q k xs more above) (here (p x) e h)
    by Greater h rest = rw (more x ∙ ap (λ b. cond b true (p x)) (id_tied k x Greater h)) (grind arith)

-- the live ones stay where no `until` changes
pub living_same : (e : ℕ) (table new : Rows) → table.live ≡ living e table → new.live ≡ table.live → new.ids ≡ table.ids → ((q : BlobId) → (row_in new q).until ≡ (row_in table q).until) → new.live ≡ living e new
living_same e table new alive live ids untils =
    live ∙ alive
    ∙ filter_agree (λ q. nat_lt e (row_in table q).until) (λ q. nat_lt e (row_in new q).until) (λ q. ap (nat_lt e) (sym (untils q))) table.ids
    ∙ ap (filter (λ q. nat_lt e (row_in new q).until)) (sym ids)

-- one that is registered is live
outlasts : (e until : ℕ) (row : Row) → e < until → nat_lt e (row_registered e until row).until ≡ true
outlasts e until row beyond = grind (arith, nat_tests)

pub living_registered : (e until : ℕ) (id : BlobId) (table new : Rows) → table.live ≡ living e table → Ascends table.ids → e < until → new.ids ≡ insert_key id_cmp table.ids id → new.live ≡ insert_key id_cmp table.live id
    → ((q : BlobId) → row_in new q ≡ cond (id_eq id q) (row_registered e until (row_in table id)) (row_in table q)) → new.live ≡ living e new
living_registered e until id table new alive ascends beyond ids live rows =
    live
    ∙ ap (λ (l : List BlobId). insert_key id_cmp l id) alive
    ∙ sym (filter_more (λ q. nat_lt e (row_in table q).until) (λ q. nat_lt e (row_in new q).until) table.ids id ascends
    (λ q. rw (rows q) (grind (arith, outlasts e until (row_in table id) beyond))))
    ∙ ap (filter (λ q. nat_lt e (row_in new q).until)) (sym ids)

-- fewer pass twice than once
filter_twice : (p q : BlobId → Bool) (ks : List BlobId) → ((x : BlobId) → q x ≡ true → p x ≡ true) → filter q (filter p ks) ≡ filter q ks
filter_twice p q [] less = refl
filter_twice p q (x ∷ xs) less = grind (arith, filter_twice p q xs less, less x)

-- a later reading epoch leaves those that outlast it
pub living_retired : (e : ℕ) (table : Rows) → table.live ≡ living e table → filter (λ q. nat_lt (e + 1) (row_in table q).until) table.live ≡ living (e + 1) table
living_retired e table alive =
    ap (filter (λ q. nat_lt (e + 1) (row_in table q).until)) alive
    ∙ filter_twice (λ q. nat_lt e (row_in table q).until) (λ q. nat_lt (e + 1) (row_in table q).until) table.ids
    (λ q later. lt-ltb e (row_in table q).until (omega (arith, ltb-true (e + 1) (row_in table q).until later)))
