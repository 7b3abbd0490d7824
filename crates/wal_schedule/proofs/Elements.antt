-- Lists that are read one element after the other.
use Rattle.wal_schedule.proofs.Common.{◌≡◌, ℕ, ◌+◌, ◌<◌, ◌≤◌, List, [], ◌∷◌, ◌++◌, length, get_or, drop, Option, None, Some, Result, Ok, Err, refl, sym, ap, AllByRecursion, append_assoc, append-nil, drop_all, drop_more, Data, Items, no_items, item, items_view, view, Value, Event, ◌>>=◌, event_of, events_of, joined, before, after}
use Rattle.wal_schedule.proofs.Drawing.{all_joined}

-- an element before the rest is the last of those so far
moved : {A : Type 0} (xs : List A) (x : A) (rest : Option (List A))
    → before xs (rest >>= λ ys. Some (x ∷ ys)) ≡ before (xs ++ x ∷ []) rest
moved xs x None = refl
moved xs x (Some ys) = ap Some (sym (append_assoc xs (x ∷ []) ys))

-- what is left begins with the element that is next
left : (vs : List Value) (i : ℕ) (v : Value) → i < length vs → v ≡ get_or vs i v → drop i vs ≡ v ∷ drop (i + 1) vs
left vs i v lt is = rw (← is) at (drop_more vs i v lt)

-- one element more is read
pub read_more : {A : Type 0} (one : Data → Option A) (all : Items → Option (List A))
    → ((d : Data) (ds : Items) → all (item d ds) ≡ (one d >>= λ x. all ds >>= λ xs. Some (x ∷ xs)))
    → (vs : List Value) (i : ℕ) (v : Value) (x : A) (old new : List A) → i < length vs → v ≡ get_or vs i v
    → all (items_view vs) ≡ before old (all (items_view (drop i vs))) → one (view v) ≡ Some x → new ≡ old ++ x ∷ []
    → all (items_view vs) ≡ before new (all (items_view (drop (i + 1) vs)))
read_more one all each vs i v x old new lt is so_far reads more =
    rw (so_far, left vs i v lt is, each, reads, more) (moved old x _)

-- all elements are read
pub read_all : {A : Type 0} (all : Items → Option (List A)) → all no_items ≡ Some []
    → (vs : List Value) (i : ℕ) (xs : List A)
    → length vs ≤ i → all (items_view vs) ≡ before xs (all (items_view (drop i vs))) → all (items_view vs) ≡ Some xs
read_all all none vs i xs end so_far = rw (so_far, drop_all i vs end, none, append-nil)

-- ---- events

-- an event before the rest is the last of those so far
passed : (number : ℕ) (es : List Event) (e : Event) (rest : Result (List Event) ℕ)
    → after es (joined number (Some e) rest) ≡ after (es ++ e ∷ []) rest
passed number es e (Ok others) = ap Ok (sym (append_assoc es (e ∷ []) others))
passed number es e (Err other) = refl

-- one event more is read
pub event_more : (f : ℕ) (vs : List Value) (i : ℕ) (v : Value) (e : Event) (old new : List Event) → i < length vs
    → v ≡ get_or vs i v
    → events_of f 1 (items_view vs) ≡ after old (events_of f (i + 1) (items_view (drop i vs)))
    → event_of f (view v) ≡ Some e → new ≡ old ++ e ∷ []
    → events_of f 1 (items_view vs) ≡ after new (events_of f (i + 1 + 1) (items_view (drop (i + 1) vs)))
event_more f vs i v e old new lt is so_far reads more =
    rw (so_far, left vs i v lt is, reads, more) (passed (i + 1) old e _)

-- all events are read
pub event_all : (f : ℕ) (vs : List Value) (i : ℕ) (es : List Event) → length vs ≤ i
    → events_of f 1 (items_view vs) ≡ after es (events_of f (i + 1) (items_view (drop i vs)))
    → events_of f 1 (items_view vs) ≡ Ok es
event_all f vs i es end so_far = rw (so_far, drop_all i vs end, append-nil)

-- what holds of all holds with one more for which it does
pub all_more : {X : Type 0} (P : X → Type 0) (old new : List X) (x : X) → AllByRecursion P old → P x
    → new ≡ old ++ x ∷ [] → AllByRecursion P new
all_more P old new x each here more = rw more (all_joined P old (x ∷ []) each (here, tt))
