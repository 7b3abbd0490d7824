-- What the entries do that change the epoch.
use Rattle.wal_ledger.proofs.Common.{◌≡◌, ◌≢◌, ℕ, ◌+◌, ◌-◌, ◌<◌, ◌≤◌, List, [], ◌∷◌, ◌++◌, length, true, false, cond, nat_lt, All, ◌⊎◌, inl, inr, refl, sym, ap, ◌∙◌, subst, arith, length-append, both_ways, false≢true, ltb-true, lt-ltb, le-ltb, cases_lt, cases_eq, BlobId, Entry, Begin, Finish, Kind, Holds, committee_size, quorum_size, Log, Phase, History, phase, reading, writing, is_moving, owners_at, cut, own_entries, until_among, until_of, is_live, is_signer_among, signers, signer_count, IsCertified, MustHold, ready_shards, entered, IsOrderly, list_any, readies, owners_of, Next}
use Rattle.wal_ledger.proofs.Entering.{phase_push, phase_whole, history_of-push}
use Rattle.wal_ledger.proofs.Quorums.{signers_outside, count_below-mono, count_below-some, owners_in, brought_before, brought_last}
use Rattle.wal_ledger.proofs.TallyLaws.{count_below-same}
use Rattle.wal_ledger.proofs.HandoverEntries.{entry_in}

-- what was certified in an earlier epoch was certified before the last Begin
pub certified_before : (log : Log) (id : BlobId) (e : ℕ) → IsOrderly log → is_moving log ≡ true → is_live log id ≡ true → e ≢ writing log → quorum_size log.f ≤ signer_count log id Holds e → IsCertified (cut log) id
certified_before log id e orderly moving live other quorum =
    let was = λ (s : ℕ) (signed : signers log id Holds e s ≡ true). orderly.old moving id Holds e s live signed other in
    let some = count_below-some (committee_size log.f) (signers log id Holds e) (omega (arith, quorum)) in
    record {
      live = (was some.0 some.2).0;
      quorum = (e, omega (arith, quorum, count_below-mono (committee_size log.f) (signers log id Holds e) (signers (cut log) id Holds e) (λ s lt signed. (was s signed).1)));
    }

-- the epoch begins to change, to these owners
pub record Begun (old new : Log) (owners : List ℕ) : Type 0 where
  pub moving : is_moving new ≡ true
  pub same_epoch : reading new ≡ reading old
  pub next_epoch : writing new ≡ reading old + 1
  pub before : cut new ≡ old
  pub live : (id : BlobId) → is_live new id ≡ is_live old id
  pub signs : (id : BlobId) (kind : Kind) (e s : ℕ) → signers new id kind e s ≡ true → (e ≤ reading old) × (signers old id kind e s ≡ true)
  pub owners_kept : (e : ℕ) → e ≤ reading old → owners_at new e ≡ owners_at old e
  pub owners_next : owners_at new (writing new) ≡ owners
  pub none_ready : (s : ℕ) → ready_shards new s ≡ false
  pub orderly : IsOrderly new

-- what an orderly log is after a handover has begun
pub begun : (log : Log) (owners : List ℕ) → IsOrderly log → is_moving log ≡ false → Begun log (entered log (Begin owners)) owners
begun log owners orderly serving =
    let new : Log = entered log (Begin owners) in
    let phase_is = phase_push log.entries (entry_in log (Begin owners)) in
    let balanced : length (phase log).brought ≡ (phase log).finishes =
    omega (arith, orderly.turns, ap {B = ℕ} (λ m. cond m 1 0) serving) in
    let serves : writing log ≡ reading log = omega (arith, ap {B = ℕ} (λ m. cond m 1 0) serving) in
    let more = length-append (phase log).brought (owners ∷ []) in
    let moves : is_moving new ≡ true =
    ap (λ (p : Phase). nat_lt p.finishes (length p.brought)) phase_is
    ∙ lt-ltb (phase log).finishes (length ((phase log).brought ++ owners ∷ [])) (omega (arith, balanced, more)) in
    let same_reading : reading new ≡ reading log = ap (λ (p : Phase). log.first + p.finishes) phase_is in
    let next : writing new ≡ reading log + 1 = omega (arith, same_reading, ap {B = ℕ} (λ m. cond m 1 0) moves) in
    let cut_is : cut new ≡ log =
    ap (λ (l : List Entry). record log { entries = l }) (ap (λ (p : Phase). p.before) phase_is ∙ phase_whole log.entries) in
    let own : (id : BlobId) → own_entries new id ≡ own_entries log id =
    λ id. ap (λ (c : History). c.own) (history_of-push log.first log.entries (entry_in log (Begin owners)) id) in
    let lives : (id : BlobId) → is_live new id ≡ is_live log id =
    λ id. ap (λ (n : ℕ). nat_lt n (until_of new id)) same_reading ∙ ap (λ (l : List Entry). nat_lt (reading log) (until_among l)) (own id) in
    let kept : (e : ℕ) → e ≤ reading log → owners_at new e ≡ owners_at log e =
    λ e le. ap (λ (p : Phase). owners_in log.first log.owners p e) phase_is
    ∙ brought_before (log.owners ∷ (phase log).brought) owners (e - log.first) (omega (arith, le, balanced)) in
    let signs : (id : BlobId) (kind : Kind) (e s : ℕ) → signers new id kind e s ≡ true → (e ≤ reading log) × (signers log id kind e s ≡ true) =
    λ id kind e s signed.
    let here = ap (λ (l : List Entry). is_signer_among (owners_at new e) l kind e s) (sym (own id)) ∙ signed in
    elim (cases_lt (reading log) e) [
      | inl far ↦ absurd (both_ways _ (signers_outside (owners_at new e) (own_entries log id) kind e s (λ k d lt same. omega (arith, orderly.epochs id k d lt, serves))) here)
      | inr le ↦ (le, ap (λ (o : List ℕ). is_signer_among o (own_entries log id) kind e s) (sym (kept e le)) ∙ here)
    ] in
    let owners_next : owners_at new (writing new) ≡ owners =
    ap (λ (p : Phase). owners_in log.first log.owners p (writing new)) phase_is
    ∙ brought_last (log.owners ∷ (phase log).brought) owners (writing new - log.first) (omega (arith, next, balanced)) in
    let none_ready : (s : ℕ) → ready_shards new s ≡ false =
    λ s. ap (λ (p : Phase). list_any (λ (x : Entry). readies (owners_of Next new) s x.body) p.since) phase_is in
    let tidy : IsOrderly new = record {
      turns = omega (arith, ap (λ (p : Phase). length p.brought) phase_is, more, ap (λ (p : Phase). p.finishes) phase_is, balanced, ap {B = ℕ} (λ m. cond m 1 0) moves);
      epochs = λ id. subst (All (λ (x : Entry). x.epoch ≤ writing new)) (sym (own id)) (λ k d lt. omega (arith, orderly.epochs id k d lt, next, serves));
      old = λ m id kind e s live signed other. subst (λ (c : Log). (is_live c id ≡ true) × (signers c id kind e s ≡ true)) (sym cut_is) (sym (lives id) ∙ live, (signs id kind e s signed).1);
      lives = λ m id was. lives id ∙ subst (λ (c : Log). is_live c id ≡ true) cut_is was;
    } in
    assumption

-- the next epoch begins
pub record Finished (old new : Log) : Type 0 where
  pub serves : is_moving new ≡ false
  pub read_now : reading new ≡ writing old
  pub written_now : writing new ≡ writing old
  pub owners : (e : ℕ) → owners_at new e ≡ owners_at old e
  pub signs : (id : BlobId) (kind : Kind) (e s : ℕ) → signers new id kind e s ≡ signers old id kind e s
  pub until : (id : BlobId) → until_of new id ≡ until_of old id
  pub live : (id : BlobId) → is_live new id ≡ true → (is_live old id ≡ true) × (writing old < until_of old id)
  -- what is certified had to be held, or a quorum of the committee that serves now acknowledged it
  pub certified : (id : BlobId) → IsCertified new id → MustHold old id ⊎ (quorum_size old.f ≤ signer_count old id Holds (writing old))
  pub orderly : IsOrderly new

-- what an orderly log is after a handover was finished
pub finished : (log : Log) → IsOrderly log → is_moving log ≡ true → Finished log (entered log Finish)
finished log orderly moving =
    let new : Log = entered log Finish in
    let phase_is = phase_push log.entries (entry_in log Finish) in
    let balanced : length (phase log).brought ≡ (phase log).finishes + 1 =
    omega (arith, orderly.turns, ap {B = ℕ} (λ m. cond m 1 0) moving) in
    let ahead : writing log ≡ reading log + 1 = omega (arith, ap {B = ℕ} (λ m. cond m 1 0) moving) in
    let stops : is_moving new ≡ false =
    ap (λ (p : Phase). nat_lt p.finishes (length p.brought)) phase_is
    ∙ le-ltb ((phase log).finishes + 1) (length (phase log).brought) (omega (arith, balanced)) in
    let next : reading new ≡ writing log = omega (arith, ahead, ap (λ (p : Phase). log.first + p.finishes) phase_is) in
    let written : writing new ≡ writing log = omega (arith, next, ap {B = ℕ} (λ m. cond m 1 0) stops) in
    let own : (id : BlobId) → own_entries new id ≡ own_entries log id =
    λ id. ap (λ (c : History). c.own) (history_of-push log.first log.entries (entry_in log Finish) id) in
    let kept : (e : ℕ) → owners_at new e ≡ owners_at log e =
    λ e. ap (λ (p : Phase). owners_in log.first log.owners p e) phase_is in
    let same_signs : (id : BlobId) (kind : Kind) (e s : ℕ) → signers new id kind e s ≡ signers log id kind e s =
    λ id kind e s. ap (λ (o : List ℕ). is_signer_among o (own_entries new id) kind e s) (kept e)
    ∙ ap (λ (l : List Entry). is_signer_among (owners_at log e) l kind e s) (own id) in
    let until : (id : BlobId) → until_of new id ≡ until_of log id = λ id. ap until_among (own id) in
    let lived : (id : BlobId) → is_live new id ≡ true → (is_live log id ≡ true) × (writing log < until_of log id) =
    λ id live.
    let lt : writing log < until_of log id = omega (arith, ltb-true (reading new) (until_of new id) live, next, until id) in
    (lt-ltb (reading log) (until_of log id) (omega (arith, lt, ahead)), lt) in
    let certified : (id : BlobId) → IsCertified new id → MustHold log id ⊎ (quorum_size log.f ≤ signer_count log id Holds (writing log)) =
    λ id c.
    let e = c.quorum.0 in
    let live = lived id c.live in
    let quorum : quorum_size log.f ≤ signer_count log id Holds e =
    omega (arith, c.quorum.1, count_below-same (committee_size log.f) (signers log id Holds e) (signers new id Holds e) (λ s lt. same_signs id Holds e s)) in
    elim (cases_eq e (writing log)) [
      | inl same ↦ inr (subst (λ (n : ℕ). quorum_size log.f ≤ signer_count log id Holds n) same quorum)
      | inr other ↦ inl (record { moving = moving; live = live.0; certified = certified_before log id e orderly moving live.0 other quorum; outlasts = live.1 })
    ] in
    let tidy : IsOrderly new = record {
      turns = omega (arith, ap (λ (p : Phase). length p.brought) phase_is, ap (λ (p : Phase). p.finishes) phase_is, balanced, ap {B = ℕ} (λ m. cond m 1 0) stops);
      epochs = λ id. subst (All (λ (x : Entry). x.epoch ≤ writing new)) (sym (own id)) (λ k d lt. omega (arith, orderly.epochs id k d lt, written));
      old = λ m id kind e s live signed other. absurd (both_ways _ stops m);
      lives = λ m id was. absurd (both_ways _ stops m);
    } in
    assumption

-- a ledger without entries
pub orderly_new : (f first : ℕ) (owners : List ℕ) → IsOrderly (record { f = f; first = first; owners = owners; entries = [] })
orderly_new f first owners = record {
  turns = refl;
  epochs = λ id k d lt. absurd (omega arith);
  old = λ m id kind e s live signed other. absurd (false≢true m);
  lives = λ m id was. absurd (false≢true m);
}
