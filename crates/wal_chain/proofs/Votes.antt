-- What is decided was voted by a quorum, and two quorums on two chains have a correct shard in common.
use Rattle.wal_chain.proofs.Common.{◌≡◌, ℕ, ◌<◌, ◌≤◌, Bool, true, false, ◌&&◌, nat_eq, inl, inr, ⊎_elim, List, Contains, refl, ap, ◌∙◌, subst, arith, and_parts, eq-eqb, eqb-true, lt-ltb, false≢true, slice_get_within, get_or_from_slice_get, Body, Ack, Attest, Ready, Entry, Kind, Holds, Denies, count_below, committee_size, quorum_size, phase, writing, owners_at, own_entries, signs_for, readies, signers, ready_shards, is_begin, same_node, node_of, Post, Seal, IsPlain, AreAllowed, IsBroken, IsSeenOn, Counts, enters, Seats, is_shared, speaks_for, votes_for, is_vote, HasVotes, is_claim, is_ready, IsBy, AreOn, HasDecided, claimed, readied, voted, IsFork, IsSound}
use Rattle.wal_chain.proofs.Lists.{any_member, member_any, common_correct}
use Rattle.wal_chain.proofs.OneHead.{pair, meet}

both : (a b : Bool) → a ≡ true → b ≡ true → (a && b) ≡ true
both a b one other = rw (one, other) refl

claim_said : (owners : List ℕ) (kind : Kind) (shard : ℕ) (body : Body) → signs_for owners kind shard body ≡ true → is_claim kind body ≡ true
claim_said owners Holds shard (Ack s id) h = refl
claim_said owners Denies shard (Attest s id) h = refl
claim_said owners kind shard body h = absurd (false≢true h)

ready_said : (owners : List ℕ) (shard : ℕ) (body : Body) → readies owners shard body ≡ true → (is_ready body ≡ true) × (is_begin body ≡ false)
ready_said owners shard (Ready s) h = (refl, refl)
ready_said owners shard body h = absurd (false≢true h)

-- a vote of a shard's node: a post of the node, and a word of the committee
module _ (seats : Seats) (shard node : ℕ) where
  shares : (signer : ℕ) → (signer < committee_size seats.f) × (node ≡ node_of seats.owners signer) → same_node seats.owners signer shard ≡ true
      → (node ≡ node_of seats.owners shard) × (is_shared seats shard signer ≡ true)
  shares signer is same = (is.1 ∙ eqb-true _ _ same, both _ _ (lt-ltb signer (committee_size seats.f) is.0) same)

  claims : (kind : Kind) (body : Body) → signs_for seats.owners kind shard body ≡ true → IsBy seats node body → (node ≡ node_of seats.owners shard) × (speaks_for seats shard body ≡ true)
  claims Holds (Ack s id) h is = shares s is h
  claims Denies (Attest s id) h is = shares s is h
  claims kind body h is = absurd (false≢true h)

  readies_by : (body : Body) → readies seats.owners shard body ≡ true → IsBy seats node body → (node ≡ node_of seats.owners shard) × (speaks_for seats shard body ≡ true)
  readies_by (Ready s) h is = shares s is h
  readies_by body h is = absurd (false≢true h)

module _ (seal : Seal) (seats : Seats) (chain : List Post) (place : ℕ) where
  voiced : (sort : Body → Bool) (entries : List Entry) → AreOn seal seats chain place sort entries → (shard : ℕ) (entry : Entry) → Contains entries entry → entry.epoch ≡ seats.epoch → sort entry.body ≡ true
      → ((node : ℕ) → IsBy seats node entry.body → (node ≡ node_of seats.owners shard) × (speaks_for seats shard entry.body ≡ true)) → (post : Post) × Counts seal chain place post × (is_vote seats shard post ≡ true)
  voiced sort entries on shard entry (k, lt, at) made is by =
      let said = subst (λ (e : Entry). e.epoch ≡ seats.epoch → sort e.body ≡ true → (post : Post) × Counts seal chain place post × Contains post.says (enters e) × IsBy seats post.by e.body) at (on k entry lt) made is in
      let node = by said.0.by said.3 in (
        said.0,
        said.1,
        both _ _ (eq-eqb said.0.by (node_of seats.owners shard) node.0)
            (member_any (votes_for seats shard) said.0.says (enters entry) said.2 (both _ _ (eq-eqb entry.epoch seats.epoch made) node.1)),
      )

  -- whatever was decided, a quorum voted
  pub was_voted : HasDecided seal seats chain place → HasVotes seal seats chain place
  was_voted (voted votes) = votes
  was_voted (claimed log id until kind there of on quorum) =
      record {
        shards = signers log id kind seats.epoch;
        quorum = subst (λ (f : ℕ). quorum_size f ≤ count_below (committee_size f) (signers log id kind seats.epoch)) of.faults quorum;
        each = λ shard lt passes.
            let found = any_member (λ (x : Entry). nat_eq x.epoch seats.epoch && signs_for (owners_at log seats.epoch) kind shard x.body) (own_entries log id) passes in
            let parts = and_parts (nat_eq found.0.epoch seats.epoch) (signs_for (owners_at log seats.epoch) kind shard found.0.body) found.2 in
            let signs = subst (λ (o : List ℕ). signs_for o kind shard found.0.body ≡ true) of.owned parts.1 in
            voiced (is_claim kind) (own_entries log id) on shard found.0 found.1 (eqb-true found.0.epoch seats.epoch parts.0) (claim_said seats.owners kind shard found.0.body signs)
            (λ node is. claims seats shard node kind found.0.body signs is);
      }
  was_voted (readied log there of lawful now on quorum) =
      record {
        shards = ready_shards log;
        quorum = subst (λ (f : ℕ). quorum_size f ≤ count_below (committee_size f) (ready_shards log)) of.faults quorum;
        each = λ shard lt passes.
            let found = any_member (λ (x : Entry). readies (owners_at log (writing log)) shard x.body) (phase log).since passes in
            let ready = subst (λ (o : List ℕ). readies o shard found.0.body ≡ true) (ap (λ (e : ℕ). owners_at log e) now ∙ of.owned) found.2 in
            let said = ready_said seats.owners shard found.0.body ready in
            let place = found.1 in
            let made = subst (λ (e : Entry). is_begin e.body ≡ false → e.epoch ≡ writing log) place.2 (lawful.since_begin place.0 found.0 place.1) said.1 in
            voiced is_ready (phase log).since on shard found.0 place (made ∙ now) said.0 (λ node is. readies_by seats shard node found.0.body ready is);
      }

seen_on : (seal : Seal) (chain : List Post) (place : ℕ) (post : Post) → Counts seal chain place post → IsSeenOn seal chain post
seen_on seal chain place post counts = record { within = omega (arith, counts.behind, slice_get_within chain counts.at post counts.stands); same = counts.same }

stands_on : (seal : Seal) (chain : List Post) (place : ℕ) (post : Post) → Counts seal chain place post → Contains chain post
stands_on seal chain place post counts = (counts.at, slice_get_within chain counts.at post counts.stands, get_or_from_slice_get chain counts.at post post counts.stands)

-- of two chains that part, one committee decides on one alone
pub one_goes_on : (seal : Seal) (seats : Seats) (fork here there : ℕ) (chain other : List Post) → IsPlain seal → AreAllowed seal chain → AreAllowed seal other → IsFork fork chain other → IsSound seal seats chain other
    → fork ≤ here → HasDecided seal seats chain here → fork ≤ there → HasDecided seal seats other there → IsBroken seal
one_goes_on seal seats fork here there chain other plain of_one of_other parts sound le_here on_one le_there on_other =
    let v = was_voted seal seats chain here on_one in
    let w = was_voted seal seats other there on_other in
    let s = common_correct seats.f v.shards w.shards seats.faulty v.quorum w.quorum sound.few in
    let a = v.each s.0 s.1 s.2 in
    let b = w.each s.0 s.1 s.3 in
    let turn = sound.steadfast s.0 s.1 s.4 in
    let on_a = seen_on seal chain here a.0 a.1 in
    let on_b = seen_on seal other there b.0 b.1 in
    ⊎_elim
    (λ found. meet seal plain fork chain other found.0 a.0 b.0 of_one of_other found.1 parts (omega (arith, le_here, a.1.informed)) (omega (arith, le_there, b.1.informed)) on_a on_b found.2 found.3)
    (λ broken. broken)
    (pair seal plain turn.first turn.others turn.in_turn a.0 b.0 chain other of_one of_other on_a on_b
    (turn.all a.0 (inl (stands_on seal chain here a.0 a.1)) a.2) (turn.all b.0 (inr (stands_on seal other there b.0 b.1)) b.2))
