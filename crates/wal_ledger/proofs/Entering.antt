-- The phase of a ledger after one more entry.
use Rattle.wal_ledger.proofs.Common.{arith, ◌≡◌, ℕ, ◌||◌, List, [], ◌∷◌, ◌++◌, fold, sym, refl, append_assoc, append-nil, fold_push, list_any, common_steps, BlobId, Entry, Body, Begin, Phase, phase_in, phase_after, history_of, history_after, readies, cond, All, subst, cond_both, All-nil, All-cons, All-head, All-tail, All-push, History, names, is_fresh, ◌<◌, Bool, true, false, nat_eq, length, slice_set, replicate, nat_tests, flag_of}

-- the phase after one more entry
pub phase_push : (xs : List Entry) (x : Entry) → phase_in (xs ++ x ∷ []) ≡ phase_after x.body x (phase_in xs)
phase_push xs x = fold_push (λ (p : Phase) (y : Entry). phase_after y.body y p) (record { finishes = 0; brought = []; before = []; since = [] }) xs x

-- an entry goes to the end of the two parts
phase_after-whole : (body : Body) (x : Entry) (p : Phase) → (phase_after body x p).before ++ (phase_after body x p).since ≡ (p.before ++ p.since) ++ x ∷ []
phase_after-whole (Begin owners) x p = refl
phase_after-whole _ x p = sym (append_assoc p.before p.since (x ∷ []))

whole_from : (p : Phase) (xs : List Entry) → let q = fold (λ (o : Phase) (y : Entry). phase_after y.body y o) p xs in q.before ++ q.since ≡ (p.before ++ p.since) ++ xs
whole_from p [] = sym (append-nil (p.before ++ p.since))
whole_from p (x ∷ xs) = rw (whole_from (phase_after x.body x p) xs, phase_after-whole x.body x p) (append_assoc (p.before ++ p.since) (x ∷ []) xs)

-- the entries before the last Begin, and those from it on, are all entries
pub phase_whole : (xs : List Entry) → (phase_in xs).before ++ (phase_in xs).since ≡ xs
phase_whole xs = whole_from (record { finishes = 0; brought = []; before = []; since = [] }) xs

-- the history of an identifier after one more entry
pub history_of-push : (first : ℕ) (xs : List Entry) (x : Entry) (id : BlobId) → history_of first (xs ++ x ∷ []) id ≡ history_after id (history_of first xs id) x
history_of-push first xs x id = fold_push (history_after id) (record { epoch = first; own = [] }) xs x

-- whether a shard's node is ready after one more entry
pub since_push : (owners : List ℕ) (since : List Entry) (x : Entry) (s : ℕ) → list_any (λ (y : Entry). readies owners s y.body) (since ++ x ∷ []) ≡ (list_any (λ (y : Entry). readies owners s y.body) since || readies owners s x.body)
since_push owners since x s = grind (arith, common_steps)

-- ---- What holds of a ledger's entries holds of an identifier's own.

history_after-own : (P : Entry → Type 0) (id : BlobId) (c : History) (x : Entry) → All P c.own → P x → All P (history_after id c x).own
history_after-own P id c x all p =
    cond_both (names id x.body) (cond (is_fresh c x.body) (x ∷ []) (c.own ++ x ∷ [])) c.own (All P)
    (λ named. cond_both (is_fresh c x.body) (x ∷ []) (c.own ++ x ∷ []) (All P) (λ fresh. All-cons P x [] p (All-nil P)) (λ stale. All-push P c.own x all p))
    (λ other. all)

own_from : (P : Entry → Type 0) (id : BlobId) (c : History) (xs : List Entry) → All P c.own → All P xs → All P (fold (history_after id) c xs).own
own_from P id c [] all rest = all
own_from P id c (x ∷ xs) all rest = own_from P id (history_after id c x) xs (history_after-own P id c x all (All-head P x xs rest)) (All-tail P x xs rest)

-- what holds of all entries holds of those of one identifier
pub own_all : (P : Entry → Type 0) (first : ℕ) (id : BlobId) (xs own : List Entry) → own ≡ (history_of first xs id).own → All P xs → All P own
own_all P first id xs own same all = subst (All P) (sym same) (own_from P id (record { epoch = first; own = [] }) xs (All-nil P) all)

-- ---- Flags of numbers.

-- one more flag is up
pub flag_raised : (flags : List Bool) (t s : ℕ) → t < length flags → flag_of (slice_set flags t true) s ≡ (flag_of flags s || nat_eq t s)
flag_raised flags t s lt = grind (arith, nat_tests, common_steps)

-- no flag is up
pub flag_cleared : (n s : ℕ) → flag_of (replicate n false) s ≡ false
flag_cleared n s = grind (arith, common_steps)
