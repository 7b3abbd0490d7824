-- What one more entry does to the phase of a ledger, to an identifier's own entries, and to who signed what.
use Rattle.wal_ledger.proofs.Common.{◌≡◌, ℕ, ◌+◌, ◌-◌, ◌<◌, ◌≤◌, List, [], ◌∷◌, ◌++◌, get_or, Bool, true, false, cond, ◌&&◌, nat_eq, nat_lt, All, ◌⊎◌, inl, inr, refl, sym, ap, ◌∙◌, subst, arith, length, list_any, or-false, or_cases, nat_tests, All-nil, All-cons, All-push, BlobId, Next, Entry, Body, Begin, Finish, Kind, Log, Phase, History, phase, phase_after, reading, writing, is_moving, owners_at, owners_of, cut, names, is_register, until_among, is_fresh, history_after, history_of, own_entries, until_of, same_node, signs_for, is_signer_among, readies, ready_shards, entered, claim_of}
use Rattle.wal_ledger.proofs.Handover.{history_of-epoch, until_push, until_plain}
use Rattle.wal_ledger.proofs.Entering.{phase_push, history_of-push, since_push}
use Rattle.wal_ledger.proofs.TallyLaws.{signers_push}
use Rattle.wal_ledger.proofs.Quorums.{writes_in, owners_in}

-- the entry that is made
abbrev pub entry_in : Log → Body → Entry
entry_in log body = record { epoch = writing log; body = body }

-- an entry that leaves the epoch as it is
abbrev pub is_plain : Body → Bool
is_plain (Begin owners) = false
is_plain Finish = false
is_plain _ = true

-- the epoch, the owners and the ledger before the last Begin stay
pub record StaysAs (old new : Log) : Type 0 where
  pub f : new.f ≡ old.f
  pub reading : reading new ≡ reading old
  pub moving : is_moving new ≡ is_moving old
  pub writing : writing new ≡ writing old
  pub owners : (e : ℕ) → owners_at new e ≡ owners_at old e
  pub cut : cut new ≡ cut old

pub phase_after-plain : (b : Body) (x : Entry) (p : Phase) → is_plain b ≡ true → phase_after b x p ≡ record p { since = p.since ++ x ∷ [] }
phase_after-plain b x p plain = grind arith

-- the phase after an entry that leaves the epoch as it is
pub phase_plain : (log : Log) (b : Body) → is_plain b ≡ true → phase (entered log b) ≡ record (phase log) { since = (phase log).since ++ entry_in log b ∷ [] }
phase_plain log b plain = phase_push log.entries (entry_in log b) ∙ phase_after-plain b (entry_in log b) (phase log) plain

-- a plain entry leaves the epoch, the owners and the ledger before the last Begin
pub plain_stays : (log : Log) (b : Body) → is_plain b ≡ true → StaysAs log (entered log b)
plain_stays log b plain =
    let e = phase_plain log b plain in
    record {
      f = refl;
      reading = ap (λ (p : Phase). log.first + p.finishes) e;
      moving = ap (λ (p : Phase). nat_lt p.finishes (length p.brought)) e;
      writing = ap {B = ℕ} (λ (p : Phase). log.first + p.finishes + cond (nat_lt p.finishes (length p.brought)) 1 0) e;
      owners = λ at. ap (λ (p : Phase). get_or (log.owners ∷ p.brought) (at - log.first) []) e;
      cut = ap {B = Log} (λ (p : Phase). record { f = log.f; first = log.first; owners = log.owners; entries = p.before }) e;
    }

-- what becomes of an identifier's own entries
pub data Owned (log : Log) (b : Body) (id : BlobId) (own : List Entry) : Type 0 where
  -- they stay, where the entry does not name it
  stays : own ≡ own_entries log id → names id b ≡ false → Owned log b id own
  -- they grow
  grows : own ≡ own_entries log id ++ entry_in log b ∷ [] → names id b ≡ true → (is_register b ≡ true → reading log < until_of log id) → Owned log b id own
  -- they begin anew
  anew : own ≡ entry_in log b ∷ [] → names id b ≡ true → is_register b ≡ true → until_of log id ≤ reading log → Owned log b id own

-- what an entry adds to the entries of an identifier
pub owned : (log : Log) (b : Body) (id : BlobId) → Owned log b id (own_entries (entered log b) id)
owned log b id = subst (Owned log b id) (sym pushed) (by (names id b) refl (is_fresh history b) refl)
  where
    history : History
    history = history_of log.first log.entries id

    pushed : own_entries (entered log b) id ≡ (history_after id history (entry_in log b)).own
    pushed = ap (λ (c : History). c.own) (history_of-push log.first log.entries (entry_in log b) id)

    at : history.epoch ≡ reading log
    at = history_of-epoch log.first log.entries id

    by : (named : Bool) → names id b ≡ named → (fresh : Bool) → is_fresh history b ≡ fresh → Owned log b id (cond named (cond fresh (entry_in log b ∷ []) (history.own ++ entry_in log b ∷ [])) history.own)
    by false n fresh f = stays refl n
    by true n true f = anew refl n (grind (arith, nat_tests)) (grind (arith, nat_tests, at))
    by true n false f = grows refl n (λ registers. grind (arith, nat_tests, at))

-- what is no registration leaves each `until`
pub until_same : (log : Log) (b : Body) (id : BlobId) (own : List Entry) → is_register b ≡ false → Owned log b id own → until_among own ≡ until_of log id
until_same log b id own none (stays is n) = ap until_among is
until_same log b id own none (grows is n live) = omega (arith, ap until_among is, until_push (own_entries log id) (entry_in log b), until_plain b none)
until_same log b id own none (anew is n registers le) = cc

-- what was live keeps at least its `until`
pub until_kept : (log : Log) (b : Body) (id : BlobId) (own : List Entry) → reading log < until_of log id → Owned log b id own → until_of log id ≤ until_among own
until_kept log b id own live (stays is n) = omega (arith, ap until_among is)
until_kept log b id own live (grows is n still) = omega (arith, ap until_among is, until_push (own_entries log id) (entry_in log b))
until_kept log b id own live (anew is n registers le) = omega (arith, live)

-- a quality of own entries that the new entry has
pub own_all_entered : (P : Entry → Type 0) (log : Log) (b : Body) (id : BlobId) (own : List Entry) → All P (own_entries log id) → P (entry_in log b) → Owned log b id own → All P own
own_all_entered P log b id own all here (stays is n) = subst (All P) (sym is) all
own_all_entered P log b id own all here (grows is n still) = subst (All P) (sym is) (All-push P (own_entries log id) (entry_in log b) all here)
own_all_entered P log b id own all here (anew is n registers le) = subst (All P) (sym is) (All-cons P (entry_in log b) [] here (All-nil P))

-- the new entry signs for a shard
pub record SignsNow (log : Log) (b : Body) (id : BlobId) (kind : Kind) (e s : ℕ) (owners : List ℕ) : Type 0 where
  pub named : names id b ≡ true
  pub now : e ≡ writing log
  pub signed : signs_for owners kind s b ≡ true

-- it had signed before, for an identifier whose entries did not begin anew
pub record SignedBefore (log : Log) (b : Body) (id : BlobId) (kind : Kind) (e s : ℕ) (owners : List ℕ) : Type 0 where
  pub signed : is_signer_among owners (own_entries log id) kind e s ≡ true
  pub stands : is_register b ≡ true → names id b ≡ true → reading log < until_of log id

signs_new : (log : Log) (b : Body) (id : BlobId) (kind : Kind) (e s : ℕ) (owners : List ℕ) → names id b ≡ true → (nat_eq (writing log) e && signs_for owners kind s b) ≡ true → SignsNow log b id kind e s owners
signs_new log b id kind e s owners n signs =
    record { named = n; now = grind (arith, nat_tests); signed = grind (arith, nat_tests) }

-- who signed by now signed before this entry, or signs by it
pub signed_cases : (log : Log) (b : Body) (id : BlobId) (kind : Kind) (e s : ℕ) (owners : List ℕ) (own : List Entry) → is_signer_among owners own kind e s ≡ true → Owned log b id own
    → SignedBefore log b id kind e s owners ⊎ SignsNow log b id kind e s owners
signed_cases log b id kind e s owners own signed (stays is n) =
    inl (record { signed = ap (λ (l : List Entry). is_signer_among owners l kind e s) (sym is) ∙ signed; stands = λ registers named. cc })
signed_cases log b id kind e s owners own signed (grows is n still) =
    elim (or_cases (is_signer_among owners (own_entries log id) kind e s) (nat_eq (writing log) e && signs_for owners kind s b) (sym (signers_push owners (own_entries log id) kind (entry_in log b) e s) ∙ ap (λ (l : List Entry). is_signer_among owners l kind e s) (sym is) ∙ signed)) [
      | inl before ↦ inl (record { signed = before; stands = λ registers named. still registers })
      | inr now ↦ inr (signs_new log b id kind e s owners n now)
    ]
signed_cases log b id kind e s owners own signed (anew is n registers le) =
    inr (signs_new log b id kind e s owners n (sym (or-false (nat_eq (writing log) e && signs_for owners kind s b)) ∙ ap (λ (l : List Entry). is_signer_among owners l kind e s) (sym is) ∙ signed))

-- a claim is signed for the shards of its node, in its own way
pub signs_claim_for : (owners : List ℕ) (kind other : Kind) (s t : ℕ) (id : BlobId) → signs_for owners kind t (claim_of other s id) ≡ true → (kind ≡ other) × (same_node owners s t ≡ true)
signs_claim_for owners kind other s t id h = grind arith

-- the sets of shards that are ready
pub ready_plain : (log : Log) (b : Body) (s : ℕ) → is_plain b ≡ true → ready_shards (entered log b) s ≡ true → (ready_shards log s ≡ true) ⊎ (readies (owners_of Next log) s b ≡ true)
ready_plain log b s plain h =
    or_cases (ready_shards log s) (readies (owners_of Next log) s b)
    (sym (ap (λ (p : Phase). list_any (λ (x : Entry). readies (owners_in log.first log.owners p (writes_in log.first p)) s x.body) p.since) (phase_plain log b plain)
    ∙ since_push (owners_of Next log) (phase log).since (entry_in log b) s) ∙ h)
