-- Counts of shards below a number.
use Rattle.wal_ledger.proofs.Common.{◌≡◌, ℕ, zero, suc, ◌+◌, ◌<◌, ◌≤◌, Bool, true, false, cond, not, ◌&&◌, ◌||◌, nat_eq, inl, inr, List, [], ◌∷◌, length, refl, ap, arith, list_any, nat_tests, cases_lt, cases_Bool, count_below, committee_size, quorum_size, ◌≢◌, All, cases_eq, and_left, ne_eqb, list_any_none, Entry, Kind, signs_for, is_signer_among, count_among, IsWithin, ◌-◌, ◌++◌, nat_lt, slice_index_or, sym, ◌∙◌, subst, list_all, and_parts, both_ways, false_from_ne_true, get_or_append_left, length-append, node_of, are_owners, Body, Log, Phase, phase, phase_in, reading, is_moving, owners_at, same_node, readies, IsLawful}
use Rattle.std.proofs.Math.Seq.{get_or-append_seam}

-- none pass
pub count_below-none : (n : ℕ) (p : ℕ → Bool) → ((s : ℕ) → p s ≡ false) → count_below n p ≡ 0
count_below-none zero p none = refl
count_below-none (suc n) p none = omega (arith, count_below-none n p none, ap {B = ℕ} (λ b. cond b 1 0) (none n))

-- a set that has a member counts for something
pub count_below-has : (n s : ℕ) (p : ℕ → Bool) → s < n → p s ≡ true → 0 < count_below n p
count_below-has zero s p lt here = absurd (omega arith)
count_below-has (suc n) s p lt here = grind (arith, count_below-has n s p, cases_eq s n)

-- two sets without a common member, joined
pub count_below-joined : (n : ℕ) (p r q : ℕ → Bool) → ((s : ℕ) → q s ≡ (p s || r s)) → ((s : ℕ) → p s ≡ true → r s ≡ false) → count_below n q ≡ count_below n p + count_below n r
count_below-joined zero p r q is apart = refl
count_below-joined (suc n) p r q is apart = grind (arith, nat_tests, count_below-joined n p r q is apart, is n, apart n)

-- no shard signed in an epoch in which no entry was made
pub signers_outside : (owners : List ℕ) (own : List Entry) (kind : Kind) (e s : ℕ) → All (λ x. x.epoch ≢ e) own
    → is_signer_among owners own kind e s ≡ false
signers_outside owners own kind e s apart =
    list_any_none (λ x. nat_eq x.epoch e && signs_for owners kind s x.body) own (λ k d lt. and_left _ _ (ne_eqb _ _ (apart k d lt)))

pub count_among-outside : (f : ℕ) (owners : ℕ → List ℕ) (own : List Entry) (kind : Kind) (e : ℕ) → All (λ x. x.epoch ≢ e) own → count_among f owners own kind e ≡ 0
count_among-outside f owners own kind e apart = count_below-none (committee_size f) _ (λ s. signers_outside (owners e) own kind e s apart)

-- nor in an epoch after all of them
pub count_among-beyond : (f : ℕ) (owners : ℕ → List ℕ) (own : List Entry) (kind : Kind) (first last e : ℕ) → All (IsWithin first last) own → last < e → count_among f owners own kind e ≡ 0
count_among-beyond f owners own kind first last e within far = count_among-outside f owners own kind e (λ k d lt same. omega (arith, (within k d lt).high))

-- ---- Counting sets of shards.

-- a set is no larger than one that has all its members
pub count_below-mono : (n : ℕ) (p q : ℕ → Bool) → ((s : ℕ) → s < n → p s ≡ true → q s ≡ true) → count_below n p ≤ count_below n q
count_below-mono zero p q h = omega arith
count_below-mono (suc n) p q h = grind (arith, nat_tests, count_below-mono n p q (λ s lt here. h s (omega arith) here), h n (omega arith))

-- the members of a set are outside of another or in it
pub count_below-split : (n : ℕ) (p q : ℕ → Bool) → count_below n p ≤ count_below n (λ s. p s && not (q s)) + count_below n q
count_below-split zero p q = omega arith
count_below-split (suc n) p q = grind (arith, nat_tests, count_below-split n p q)

-- a union
pub count_below-or : (n : ℕ) (p q : ℕ → Bool) → count_below n (λ s. p s || q s) ≤ count_below n p + count_below n q
count_below-or zero p q = omega arith
count_below-or (suc n) p q = grind (arith, nat_tests, count_below-or n p q)

-- a set that counts for something has a member
pub count_below-some : (n : ℕ) (p : ℕ → Bool) → 0 < count_below n p → (s : ℕ) × (s < n) × (p s ≡ true)
count_below-some zero p some = absurd (omega arith)
count_below-some (suc n) p some = elim (cases_Bool (p n)) [
  | inl here ↦ (n, omega arith, here)
  | inr out ↦
      let found = count_below-some n p (omega (arith, ap {B = ℕ} (λ x. cond x 1 0) out)) in
      (found.0, omega (arith, found.1), found.2)
]

-- one shard alone
below_one : (t m : ℕ) → m ≤ t → count_below m (λ s. nat_eq t s) ≡ 0
below_one t zero le = refl
below_one t (suc m) le = grind (arith, nat_tests, below_one t m)

count_below-one : (n t : ℕ) → count_below n (λ s. nat_eq t s) ≤ 1
count_below-one zero t = omega arith
count_below-one (suc n) t = grind (arith, nat_tests, count_below-one n t, below_one t n, cases_lt t n)

-- as a set, a list has no more members than as a list
pub count_below-among : (n : ℕ) (xs : List ℕ) → count_below n (λ s. list_any (λ t. nat_eq t s) xs) ≤ length xs
count_below-among n [] = omega (arith, count_below-none n (λ s. false) (λ s. refl))
count_below-among n (x ∷ xs) = omega (arith, count_below-or n (λ s. nat_eq x s) (λ s. list_any (λ t. nat_eq t s) xs), count_below-one n x, count_below-among n xs)

-- of a quorum, more than f shards are correct, where at most f are faulty
pub quorum_correct : (f : ℕ) (p faulty : ℕ → Bool) → quorum_size f ≤ count_below (committee_size f) p → count_below (committee_size f) faulty ≤ f
    → f + 1 ≤ count_below (committee_size f) (λ s. p s && not (faulty s))
quorum_correct f p faulty quorum few = omega (arith, count_below-split (committee_size f) p faulty)

-- ---- Shards of one node, and the owners of each epoch.

node_is : (owners : List ℕ) (s t : ℕ) → same_node owners s t ≡ true → node_of owners s ≡ node_of owners t
node_is owners s t h = grind (arith, nat_tests)

-- owners are as many as the shards
pub owners_length : (n : ℕ) (owners : List ℕ) → are_owners n owners ≡ true → length owners ≡ n
owners_length n owners h = let e = (and_parts (nat_eq (length owners) n) (list_all (λ node. nat_lt node n) owners) h).0 in grind (arith, nat_tests)

-- what an entry says for a shard it says for all shards of the node
pub signs_for-node : (owners : List ℕ) (kind : Kind) (s t : ℕ) (b : Body) → same_node owners s t ≡ true → signs_for owners kind s b ≡ signs_for owners kind t b
signs_for-node owners kind s t b h = grind (arith, node_is owners s t h)

-- so all shards of a node are signers, or none is
pub signers-node : (owners : List ℕ) (own : List Entry) (kind : Kind) (e s t : ℕ) → same_node owners s t ≡ true → is_signer_among owners own kind e s ≡ is_signer_among owners own kind e t
signers-node owners [] kind e s t h = refl
signers-node owners (x ∷ own) kind e s t h = cc (signs_for-node owners kind s t x.body h, signers-node owners own kind e s t h)

readies-node : (owners : List ℕ) (s t : ℕ) (b : Body) → same_node owners s t ≡ true → readies owners s b ≡ readies owners t b
readies-node owners s t b h = grind (arith, node_is owners s t h)

-- and all are ready, or none is
pub ready-node : (owners : List ℕ) (since : List Entry) (s t : ℕ) → same_node owners s t ≡ true → list_any (λ (x : Entry). readies owners s x.body) since ≡ list_any (λ (x : Entry). readies owners t x.body) since
ready-node owners [] s t h = refl
ready-node owners (x ∷ since) s t h = cc (readies-node owners s t x.body h, ready-node owners since s t h)

-- a set that has all shards of a node or none, and not this shard, has no shard of this one's node
pub node_apart : (owners : List ℕ) (p : ℕ → Bool) (t : ℕ) → ((s u : ℕ) → same_node owners s u ≡ true → p s ≡ p u) → p t ≡ false → (s : ℕ) → p s ≡ true → same_node owners t s ≡ false
node_apart owners p t whole out s here = false_from_ne_true (same_node owners t s) (λ h. both_ways (p s) (sym (whole t s h) ∙ out) here)

-- whether a phase is within a change of the epoch, and its writing epoch
abbrev pub moves_in : Phase → Bool
moves_in q = nat_lt q.finishes (length q.brought)

abbrev pub writes_in : ℕ → Phase → ℕ
writes_in first q = first + q.finishes + cond (moves_in q) 1 0

-- the owners of an epoch, by the phase
abbrev pub owners_in : ℕ → List ℕ → Phase → ℕ → List ℕ
owners_in first start p epoch = slice_index_or (start ∷ p.brought) (epoch - first) []

-- owners that are brought change no epoch before
pub brought_before : (os : List (List ℕ)) (o : List ℕ) (k : ℕ) → k < length os → slice_index_or (os ++ o ∷ []) k [] ≡ slice_index_or os k []
brought_before os o k lt = get_or_append_left os (o ∷ []) [] k lt

-- behind k lists of owners, the one that is brought last is the list of number k
pub brought_last : (os : List (List ℕ)) (o : List ℕ) (k : ℕ) → length os ≡ k → slice_index_or (os ++ o ∷ []) k [] ≡ o
brought_last os o k at = subst (λ (n : ℕ). slice_index_or (os ++ o ∷ []) n [] ≡ o) at (get_or-append_seam os o [] [])

-- the owners of epochs up to the reading one are those of the ledger cut before its last Begin
pub owners_cut : (log : Log) (e : ℕ) → IsLawful log → is_moving log ≡ true → e ≤ reading log → owners_in log.first log.owners (phase_in (phase log).before) e ≡ owners_at log e
owners_cut log e lawful moving le =
    let next = lawful.brings moving in
    let old = (phase_in (phase log).before).brought in
    let more : length (phase log).brought ≡ length old + 1 = ap (λ (l : List (List ℕ)). length l) next.1 ∙ length-append old (next.0 ∷ []) in
    let one : ◌≡◌ {A = ℕ} (cond (is_moving log) 1 0) 1 = ap {B = ℕ} (λ b. cond b 1 0) moving in
    sym (ap (λ (l : List (List ℕ)). slice_index_or (log.owners ∷ l) (e - log.first) []) next.1
    ∙ brought_before (log.owners ∷ old) next.0 (e - log.first) (omega (arith, more, one, lawful.turns, le)))
