-- What a tally tells, and how one more entry changes it.
use Rattle.wal_ledger.proofs.Common.{◌≡◌, ◌≢◌, ℕ, zero, suc, ◌+◌, ◌-◌, ◌<◌, ◌≤◌, List, [], ◌∷◌, ◌++◌, Bool, true, false, cond, ◌&&◌, ◌||◌, nat_eq, nat_le, length, get_or, All, Option, Some, None, slice_get, inl, inr, refl, sym, ap, ◌∙◌, subst, arith, nat_tests, or-false, cases_lt, cases_eq, eq-eqb, eqb-true, eqb-false, ne_eqb, leb-true, leb-false, cond_both, and_right, common_steps, BlobId, has_neighbour, Entry, Body, Register, Kind, Holds, Denies, Tally, count_below, committee_size, quorum_size, signs_for, same_node, is_signer_among, claim_of, count_among, IsWithin, signs, IsLinked, Chain, HasLeast, IsTally, IsFirstClaim, no_tally, link_in, quorum_after, node_size, tally_after, tally_of, no_row, node_of}
use Rattle.std.proofs.lemmas.Option.{slice_get_within, get_or_from_slice_get, gets}
use Rattle.wal_ledger.specs.declared.tally.Quorum.{Quorum}
use Rattle.wal_ledger.proofs.Quorums.{count_below-none, count_below-has, count_below-joined, count_among-beyond, signers_outside, signers-node, node_apart}

-- an entry of one shard signs for all shards of its node
pub signs_one : (owners : List ℕ) (kind : Kind) (t s : ℕ) (b : Body) → signs kind t b ≡ true → signs_for owners kind s b ≡ same_node owners t s
signs_one owners kind t s b h = grind (arith, nat_tests)

-- what a shard enters is signed by it; a registration is signed by nobody
pub signs_claim : (kind : Kind) (s : ℕ) (id : BlobId) → signs kind s (claim_of kind s id) ≡ true
signs_claim kind s id = grind (arith, nat_tests)

pub signs_register : (owners : List ℕ) (kind : Kind) (s : ℕ) (id : BlobId) (until : ℕ) → signs_for owners kind s (Register id until) ≡ false
signs_register owners kind s id until = grind arith

-- sets that agree have as many members
pub count_below-same : (n : ℕ) (p q : ℕ → Bool) → ((s : ℕ) → s < n → q s ≡ p s) → count_below n q ≡ count_below n p
count_below-same zero p q same = refl
count_below-same (suc n) p q same = cc (count_below-same n p q (λ s lt. same s (omega arith)), same n (omega arith))

-- an element stays where it is when more follow
pub slice_get-front : {X : Type 0} (xs ys : List X) (i : ℕ) (x : X) → slice_get xs i ≡ Some x → slice_get (xs ++ ys) i ≡ Some x
slice_get-front xs ys i x h = grind (arith, common_steps, gets)

pub slice_get-push : {X : Type 0} (xs : List X) (x : X) (i : ℕ) → length xs ≡ i → slice_get (xs ++ x ∷ []) i ≡ Some x
slice_get-push xs x i h = grind (arith, common_steps, gets)

-- a chain is the same when more entries and links follow
pub chain_push : (entries more : List Entry) (links after : List ℕ) (kind : Kind) (link : ℕ) (shards : List ℕ) → Chain entries links kind link shards → Chain (entries ++ more) (links ++ after) kind link shards
chain_push entries more links after kind link [] h = h
chain_push entries more links after kind link (s ∷ shards) (before, (l, rest)) =
    let here : IsLinked (entries ++ more) (links ++ after) kind link s before = record {
      place = l.place;
      entry = l.entry;
      follows = l.follows;
      signed = l.signed;
      earlier = l.earlier;
      found = slice_get-front entries more l.place l.entry l.found;
      linked = slice_get-front links after l.place before l.linked;
    } in
    (before, (here, chain_push entries more links after kind before shards rest))

-- its links are within
pub chain_within : (entries : List Entry) (links : List ℕ) (kind : Kind) (link : ℕ) (shards : List ℕ) → Chain entries links kind link shards → link ≤ length entries
chain_within entries links kind link [] h = omega arith
chain_within entries links kind link (s ∷ shards) (before, (l, rest)) = omega (arith, l.follows, slice_get_within entries l.place l.entry l.found)

-- a chain goes on from a new entry
pub chain_more : (entries : List Entry) (links : List ℕ) (kind : Kind) (link place shard : ℕ) (shards : List ℕ) (x : Entry)
    → Chain entries links kind link shards → length entries ≡ place → length links ≡ place → signs kind shard x.body ≡ true
    → Chain (entries ++ x ∷ []) (links ++ link ∷ []) kind (place + 1) (shard ∷ shards)
chain_more entries links kind link place shard shards x chain entries_len links_len signed =
    let here : IsLinked (entries ++ x ∷ []) (links ++ link ∷ []) kind (place + 1) shard link = record {
      place = place;
      entry = x;
      follows = refl;
      found = slice_get-push entries x place entries_len;
      signed = signed;
      linked = slice_get-push links link place links_len;
      earlier = omega (arith, entries_len, chain_within entries links kind link shards chain);
    } in
    (link, (here, chain_push entries (x ∷ []) links (link ∷ []) kind link shards chain))

-- a step of a walk down the links, at a place: the entry there and its link, which leads on
pub record Walks (entries : List Entry) (links : List ℕ) (kind : Kind) (link : ℕ) (shards : List ℕ) : Type 0 where
  pub rest : List ℕ
  pub entry_within : link - 1 < length entries
  pub link_within : link - 1 < length links
  pub chain : Chain entries links kind (get_or links (link - 1) 0) rest
  pub below : get_or links (link - 1) 0 < link
  pub same : (owners : List ℕ) (s : ℕ) (d : Entry) → has_neighbour owners shards s ≡ (signs_for owners kind s (get_or entries (link - 1) d).body || has_neighbour owners rest s)

-- what a chain of entries leads past
pub walks : (entries : List Entry) (links : List ℕ) (kind : Kind) (link : ℕ) (shards : List ℕ) → 0 < link → Chain entries links kind link shards → Walks entries links kind link shards
walks entries links kind link [] pos chain = absurd (omega arith)
walks entries links kind link (t ∷ shards) pos (before, (l, rest)) =
    let here : l.place ≡ link - 1 = omega (arith, l.follows) in
    let linked : slice_get links (link - 1) ≡ Some before = subst (λ (i : ℕ). slice_get links i ≡ Some before) here l.linked in
    let found : slice_get entries (link - 1) ≡ Some l.entry = subst (λ (i : ℕ). slice_get entries i ≡ Some l.entry) here l.found in
    let next : get_or links (link - 1) 0 ≡ before = get_or_from_slice_get links (link - 1) before 0 linked in
    record {
      rest = shards;
      entry_within = slice_get_within entries (link - 1) l.entry found;
      link_within = slice_get_within links (link - 1) before linked;
      chain = subst (λ (i : ℕ). Chain entries links kind i shards) (sym next) rest;
      below = omega (arith, next, l.earlier, l.follows);
      same = λ owners s d. rw (get_or_from_slice_get entries (link - 1) l.entry d found, signs_one owners kind t s l.entry.body l.signed) refl;
    }

-- with no link left, a walk has found nobody
pub walk_end : (owners : List ℕ) (entries : List Entry) (links : List ℕ) (kind : Kind) (link s : ℕ) (shards : List ℕ) → link ≤ 0 → Chain entries links kind link shards → has_neighbour owners shards s ≡ false
walk_end owners entries links kind link s [] end chain = refl
walk_end owners entries links kind link s (t ∷ shards) end (before, (l, rest)) = absurd (omega (arith, l.follows))

-- a set of signers after one more own entry
pub signers_push : (owners : List ℕ) (own : List Entry) (kind : Kind) (x : Entry) (e s : ℕ) → is_signer_among owners (own ++ x ∷ []) kind e s ≡ (is_signer_among owners own kind e s || (nat_eq x.epoch e && signs_for owners kind s x.body))
signers_push owners own kind x e s = grind (arith, common_steps)

-- nobody signs by an entry of another epoch
pub signers_beyond : (owners : List ℕ) (own : List Entry) (kind : Kind) (first last e s : ℕ) → All (IsWithin first last) own → last < e → is_signer_among owners own kind e s ≡ false
signers_beyond owners own kind first last e s within far =
    signers_outside owners own kind e s (λ k d lt same. omega (arith, (within k d lt).high))

least_like : (f : ℕ) (owners owns : ℕ → List ℕ) (own new : List Entry) (kind : Kind) (q : Option Quorum) → ((e : ℕ) → count_among f owns new kind e ≡ count_among f owners own kind e) → HasLeast f owners own kind q → HasLeast f owns new kind q
least_like f owners owns own new kind q same h = grind (arith, same, h)

-- a tally stays right for other own entries, or other owners, with the same signers, where its links lead on
pub tally_like : (f : ℕ) (owners owns : ℕ → List ℕ) (own new : List Entry) (kind : Kind) (entries es : List Entry) (links ls : List ℕ) (t : Tally)
    → owns t.epoch ≡ owners t.epoch → ((e s : ℕ) → is_signer_among (owns e) new kind e s ≡ is_signer_among (owners e) own kind e s)
    → ((shards : List ℕ) → Chain entries links kind t.last shards → Chain es ls kind t.last shards)
    → IsTally f owners own kind entries links t → IsTally f owns new kind es ls t
tally_like f owners owns own new kind entries es links ls t at same leads i =
    let counts_same : (e : ℕ) → count_among f owns new kind e ≡ count_among f owners own kind e = λ e. count_below-same (committee_size f) (is_signer_among (owners e) own kind e) (is_signer_among (owns e) new kind e) (λ s lt. same e s) in
    record {
      shards = i.shards;
      chain = leads i.shards i.chain;
      members = λ s. ap (λ (o : List ℕ). has_neighbour o i.shards s) at ∙ i.members s ∙ sym (same t.epoch s);
      counted = i.counted ∙ sym (counts_same t.epoch);
      idle = i.idle;
      later = λ e s lt. same e s ∙ i.later e s lt;
      least = least_like f owners owns own new kind t.quorum counts_same i.least;
    }

-- so when more entries follow that are not the identifier's own
pub tally_kept : (f : ℕ) (owners : ℕ → List ℕ) (own : List Entry) (kind : Kind) (entries more : List Entry) (links after : List ℕ) (t : Tally) → IsTally f owners own kind entries links t → IsTally f owners own kind (entries ++ more) (links ++ after) t
tally_kept f owners own kind entries more links after t i =
    tally_like f owners owners own own kind entries _ links _ t refl (λ e s. refl) (chain_push entries more links after kind t.last) i

-- and after one more own entry by which nobody signs in this way
pub tally_other : (f : ℕ) (owners : ℕ → List ℕ) (own : List Entry) (kind : Kind) (entries : List Entry) (links : List ℕ) (t : Tally) (x : Entry) (link : ℕ) → ((e s : ℕ) → signs_for (owners e) kind s x.body ≡ false)
    → IsTally f owners own kind entries links t → IsTally f owners (own ++ x ∷ []) kind (entries ++ x ∷ []) (links ++ link ∷ []) t
tally_other f owners own kind entries links t x link none i =
    tally_like f owners owners own (own ++ x ∷ []) kind entries _ links _ t refl
    (λ e s. signers_push (owners e) own kind x e s ∙ ap (λ b. is_signer_among (owners e) own kind e s || b) (and_right (nat_eq x.epoch e) (signs_for (owners e) kind s x.body) (none e s)) ∙ or-false (is_signer_among (owners e) own kind e s))
    (chain_push entries (x ∷ []) links (link ∷ []) kind t.last) i

-- the tally of nothing is right where nobody signed
pub tally_none : (f : ℕ) (owners : ℕ → List ℕ) (own : List Entry) (kind : Kind) (entries : List Entry) (links : List ℕ) → ((e s : ℕ) → is_signer_among (owners e) own kind e s ≡ false) → IsTally f owners own kind entries links no_tally
tally_none f owners own kind entries links none =
    let zero_counts : (e : ℕ) → count_among f owners own kind e ≡ 0 = λ e. count_below-none (committee_size f) (is_signer_among (owners e) own kind e) (none e) in
    record {
      shards = [];
      chain = refl;
      members = λ s. sym (none 0 s);
      counted = sym (zero_counts 0);
      idle = λ h. refl;
      later = λ e s lt. none e s;
      least = λ e. omega (arith, zero_counts e);
    }

-- so for both kinds, in the row of an identifier
pub row_none : (f until : ℕ) (owners : ℕ → List ℕ) (own entries : List Entry) (links : List ℕ) → ((kind : Kind) (e s : ℕ) → is_signer_among (owners e) own kind e s ≡ false)
    → (kind : Kind) → IsTally f owners own kind entries links (tally_of kind (record no_row { until = until }))
row_none f until owners own entries links none Holds = tally_none f owners own Holds entries links (none Holds)
row_none f until owners own entries links none Denies = tally_none f owners own Denies entries links (none Denies)

-- the last epoch in which some shard signed is within the epochs of the entries
pub tally_epoch : (f first last : ℕ) (owners : ℕ → List ℕ) (own : List Entry) (kind : Kind) (entries : List Entry) (links : List ℕ) (t : Tally) → IsTally f owners own kind entries links t → All (IsWithin first last) own → t.epoch ≤ last
tally_epoch f first last owners own kind entries links t i within = grind (arith, i.idle, i.counted, count_among-beyond f owners own kind first last t.epoch within)

-- a tally is right by all owners that are the same for the epochs of the entries
pub tally_owned : (f first last : ℕ) (owners owns : ℕ → List ℕ) (own : List Entry) (kind : Kind) (entries : List Entry) (links : List ℕ) (t : Tally) → All (IsWithin first last) own → ((e : ℕ) → e ≤ last → owns e ≡ owners e)
    → IsTally f owners own kind entries links t → IsTally f owns own kind entries links t
tally_owned f first last owners owns own kind entries links t within same i =
    tally_like f owners owns own own kind entries entries links links t (same t.epoch (tally_epoch f first last owners own kind entries links t i within))
    (λ e s. elim (cases_lt last e) [
      | inl far ↦ signers_beyond (owns e) own kind first last e s within far ∙ sym (signers_beyond (owners e) own kind first last e s within far)
      | inr le ↦ ap (λ (o : List ℕ). is_signer_among o own kind e s) (same e le)
    ]) (λ shards c. c) i

-- at most all shards signed in one epoch
pub count_below-most : (n : ℕ) (p : ℕ → Bool) → count_below n p ≤ n
count_below-most zero p = omega arith
count_below-most (suc n) p = grind (arith, nat_tests, count_below-most n p)

-- a tally counts at most the shards of a committee
pub tally_most : (f : ℕ) (owners : ℕ → List ℕ) (own : List Entry) (kind : Kind) (entries : List Entry) (links : List ℕ) (t : Tally) → IsTally f owners own kind entries links t → t.count ≤ committee_size f
tally_most f owners own kind entries links t i = omega (arith, i.counted, count_below-most (committee_size f) (is_signer_among (owners t.epoch) own kind t.epoch))

-- in the last epoch so far as many shards signed as a tally says of it
pub tally_counts : (f first epoch : ℕ) (owners : ℕ → List ℕ) (own : List Entry) (kind : Kind) (entries : List Entry) (links : List ℕ) (t : Tally) → IsTally f owners own kind entries links t → All (IsWithin first epoch) own
    → count_among f owners own kind epoch ≡ cond (nat_eq t.epoch epoch) t.count 0
tally_counts f first epoch owners own kind entries links t i within = elim (cases_eq t.epoch epoch) [
  | inl e ↦ rw (eq-eqb t.epoch epoch e) (subst (λ (v : ℕ). count_among f owners own kind v ≡ t.count) e (sym i.counted))
  | inr ne ↦ rw (ne_eqb t.epoch epoch ne) (count_below-none (committee_size f) _ (λ s. i.later epoch s (omega (arith, ne, tally_epoch f first epoch owners own kind entries links t i within))))
]

-- and the nodes of these shards are found down its links, and no others
pub tally_signers : (f first epoch s : ℕ) (owners : ℕ → List ℕ) (own : List Entry) (kind : Kind) (entries : List Entry) (links : List ℕ) (t : Tally) (i : IsTally f owners own kind entries links t) → All (IsWithin first epoch) own
    → is_signer_among (owners epoch) own kind epoch s ≡ (nat_eq t.epoch epoch && has_neighbour (owners epoch) i.shards s)
tally_signers f first epoch s owners own kind entries links t i within = elim (cases_eq t.epoch epoch) [
  | inl e ↦ rw (eq-eqb t.epoch epoch e) (subst (λ (v : ℕ). is_signer_among (owners v) own kind v s ≡ has_neighbour (owners v) i.shards s) e (sym (i.members s)))
  | inr ne ↦ rw (ne_eqb t.epoch epoch ne) (i.later epoch s (omega (arith, ne, tally_epoch f first epoch owners own kind entries links t i within)))
]

-- the least quorum after one more signer in the last epoch
pub least_grown : (f first epoch count : ℕ) (owners : ℕ → List ℕ) (own new : List Entry) (kind : Kind) (q : Option Quorum) → All (IsWithin first epoch) own
    → ((e : ℕ) → e ≢ epoch → count_among f owners new kind e ≡ count_among f owners own kind e)
    → count_among f owners own kind epoch ≤ count → count ≡ count_among f owners new kind epoch
    → HasLeast f owners own kind q → HasLeast f owners new kind (quorum_after f epoch count q)
least_grown f first epoch count owners own new kind None within same grown is h =
    cond_both (nat_le (quorum_size f) count) (Some (record { epoch = epoch; count = count })) None (HasLeast f owners new kind)
    (λ le. record {
      counted = is;
      quorum = leb-true (quorum_size f) count le;
      least = λ e lt. omega (arith, same e (λ here. omega arith), h e);
    })
    (λ few e. grind (arith, is, leb-false (quorum_size f) count few, same e, h e))
least_grown f first epoch count owners own new kind (Some q) within same grown is h =
    let le : q.epoch ≤ epoch = grind (arith, h.counted, h.quorum, count_among-beyond f owners own kind first epoch q.epoch within) in
    cond_both (nat_eq q.epoch epoch) (record { epoch = epoch; count = count }) q (λ r. HasLeast f owners new kind (Some r))
    (λ e. record {
      counted = is;
      quorum = omega (arith, h.counted, h.quorum, ap (λ (v : ℕ). count_among f owners own kind v) (eqb-true q.epoch epoch e));
      least = λ k lt. omega (arith, same k (λ here. omega arith), h.least k (omega (arith, eqb-true q.epoch epoch e)));
    })
    (λ ne. record {
      counted = h.counted ∙ sym (same q.epoch (eqb-false q.epoch epoch ne));
      quorum = h.quorum;
      least = λ k lt. omega (arith, same k (λ here. omega (arith, le)), h.least k lt);
    })

-- the tally after one more entry by which a shard signs, for the first time for its node in its epoch, which is the last so far
pub tally_signed : (f first place size shard : ℕ) (owners : ℕ → List ℕ) (own : List Entry) (kind : Kind) (entries : List Entry) (links : List ℕ) (t : Tally) (x : Entry)
    → IsTally f owners own kind entries links t → IsFirstClaim f first (owners x.epoch) own kind shard x → size ≡ node_size f (owners x.epoch) shard → length entries ≡ place → length links ≡ place
    → IsTally f owners (own ++ x ∷ []) kind (entries ++ x ∷ []) (links ++ link_in x.epoch t ∷ []) (tally_after f x.epoch place size t)
tally_signed f first place size shard owners own kind entries links t x i claim sized entries_len links_len =
    let old = below (nat_eq t.epoch x.epoch) in
    let counted : cond (nat_eq t.epoch x.epoch) t.count 0 + size ≡ count_among f owners new kind x.epoch = omega (arith, counts_here, tally_counts f first x.epoch owners own kind entries links t i claim.latest) in
    record {
      shards = shard ∷ old.0;
      chain = chain_more entries links kind (link_in x.epoch t) place shard old.0 x old.1.0 entries_len links_len claim.signed;
      members = λ s.
          grind (arith, nat_tests, old.1.1 s, tally_signers f first x.epoch s owners own kind entries links t i claim.latest, here s);
      counted = counted;
      idle = λ h. absurd (omega (arith, sized, count_below-has (committee_size f) shard (same_node (owners x.epoch) shard) claim.below (eq-eqb (node_of (owners x.epoch) shard) _ refl)));
      later = λ e s past. apart e s (λ h. omega arith) ∙ signers_beyond (owners e) own kind first x.epoch e s claim.latest past;
      least = least_grown f first x.epoch (cond (nat_eq t.epoch x.epoch) t.count 0 + size) owners own new kind t.quorum claim.latest
          (λ e ne. count_below-same (committee_size f) (is_signer_among (owners e) own kind e) (is_signer_among (owners e) new kind e) (λ s lt. apart e s ne))
          (omega (arith, counts_here, counted)) counted i.least;
    }
  where
    new : List Entry
    new = own ++ x ∷ []

    apart : (e s : ℕ) → e ≢ x.epoch → is_signer_among (owners e) new kind e s ≡ is_signer_among (owners e) own kind e s
    apart e s ne = grind (arith, nat_tests, signers_push (owners e) own kind x e s)

    here : (s : ℕ) → is_signer_among (owners x.epoch) new kind x.epoch s ≡ (is_signer_among (owners x.epoch) own kind x.epoch s || same_node (owners x.epoch) shard s)
    here s = rw (signers_push (owners x.epoch) own kind x x.epoch s, eq-eqb x.epoch x.epoch refl, signs_one (owners x.epoch) kind shard s x.body claim.signed) refl

    counts_here : count_among f owners new kind x.epoch ≡ count_among f owners own kind x.epoch + size
    counts_here = rw sized (count_below-joined (committee_size f) (is_signer_among (owners x.epoch) own kind x.epoch) (same_node (owners x.epoch) shard) (is_signer_among (owners x.epoch) new kind x.epoch) here
        (node_apart (owners x.epoch) (is_signer_among (owners x.epoch) own kind x.epoch) shard (λ s u h. signers-node (owners x.epoch) own kind x.epoch s u h) claim.first_time))

    -- the shards that signed in this epoch so far, down the links
    below : (b : Bool) → (shards : List ℕ) × (Chain entries links kind (cond b t.last 0) shards × ((s : ℕ) → has_neighbour (owners x.epoch) shards s ≡ (b && has_neighbour (owners x.epoch) i.shards s)))
    below true = (i.shards, (i.chain, λ s. refl))
    below false = ([], (refl, λ s. refl))
