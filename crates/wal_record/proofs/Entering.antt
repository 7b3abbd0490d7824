-- What the ledger answers to an entry of a blob, and the blob's record after it, are told by the context and the record.
use Rattle.std.proofs.Common.{◌≡◌, ℕ, ◌<◌, ◌≤◌, Bool, true, false, cond, ◌&&◌, nat_lt, List, refl, sym, ap, ◌∙◌, arith}
use Rattle.std.proofs.lemmas.Bool.{ltb-true, ltb-false, lt-ltb, le-ltb, le-leb, lt-leb, false≢true}
use Rattle.wal_shape.specs.declared.metadata.BlobId.{BlobId}
use Rattle.wal_ledger.specs.declared.entry.Body.TheVariants.{Register, Ack, Attest, Ready}
use Rattle.wal_ledger.specs.declared.entry.Kind.{Kind}
use Rattle.wal_ledger.specs.declared.entry.Kind.TheVariants.{Holds, Denies}
use Rattle.wal_ledger.specs.declared.answers.RegisterAnswer.{RegisterAnswer}
use Rattle.wal_ledger.specs.declared.answers.RegisterAnswer.TheVariants as registering
use Rattle.wal_ledger.specs.declared.answers.ReadyAnswer.{ReadyAnswer}
use Rattle.wal_ledger.specs.declared.answers.ReadyAnswer.TheVariants as readying
use Rattle.wal_ledger.specs.declared.answers.AckAnswer.{AckAnswer}
use Rattle.wal_ledger.specs.declared.answers.AckAnswer.TheVariants as acking
use Rattle.wal_ledger.specs.declared.answers.AttestAnswer.{AttestAnswer}
use Rattle.wal_ledger.specs.declared.answers.AttestAnswer.TheVariants as attesting
use Rattle.wal_ledger.specs.Shards.{committee_size, quorum_size}
use Rattle.wal_ledger.specs.Ledger.{Log, LedgerState, takes_in, entered, reading, writing, is_live, until_of, own_entries, signers, signer_count, ready_shards, ready_total}
use Rattle.wal_ledger.specs.Kept.{IsLawful}
use Rattle.wal_ledger.specs.Answers.{IsOpen, MayClaim, Registers, Acks, Attests, Readies, claim_of}
use Rattle.wal_ledger.proofs.HandoverEntries.{plain_stays}
use Rattle.wal_ledger.proofs.HandoverOrder.{claim_plain}
use Rattle.wal_ledger.proofs.RowsPlace.{id_itself}
use Rattle.wal_record.specs.declared.outcome.Said.{Said}
use Rattle.wal_record.specs.declared.outcome.Said.TheVariants as saying
use Rattle.wal_record.specs.Record.{last_of, Votes, votes_of, BlobRecord, blob_record}
use Rattle.wal_record.specs.Context.{Context, context_of, writers, count_of, signed_in, voted, registered, turn}
use Rattle.wal_record.specs.Questions.{votes_in, with_votes, register, tally, claim, ack_word, attest_word, ready, ready_count}
use Rattle.wal_record.proofs.Sets.{count_within}
use Rattle.wal_record.proofs.Stepping.{record_step, votes_claimed, writers_is}
use Rattle.wal_record.proofs.Asking.{signed_now}
use Rattle.wal_record.proofs.Turning.{context_turn}

-- ---- Registrations.

pub register_is : (old new : LedgerState) (id : BlobId) (until : ℕ) (answer : RegisterAnswer) → IsLawful old.log → 0 < old.spare → Registers old id until answer new
    → (answer, blob_record new.log id) ≡ register (context_of old.log) (blob_record old.log id) until
register_is old new id until registering.Past lawful room (past, same) =
    rw (same, le-leb until (writing old.log) past) refl
register_is old new id until registering.MovingExtension lawful room (beyond, moves, same) =
    rw (same, lt-leb until (writing old.log) beyond, moves) refl
register_is old new id until registering.NoRoom lawful room (may, none, same) = absurd (omega (arith, none, room))
register_is old new id until (registering.Registered most) lawful room (may, some, is, most_is) =
    let after : blob_record (entered old.log (Register id until)) id ≡ registered (reading old.log) until (blob_record old.log id) = record_step old.log (Register id until) id lawful (id_itself id) in
    let counted : most ≡ until_of (entered old.log (Register id until)) id = most_is ∙ ap (λ (l : LedgerState). until_of l.log id) is in
    rw (is, lt-leb until (writing old.log) may.beyond, may.allowed, counted, ← after) refl

-- ---- Claims.

module _ (log : Log) (kind : Kind) (shard : ℕ) (id : BlobId) (lawful : IsLawful log) (below : shard < committee_size log.f) where
  abbrev context : Context
  context = context_of log

  abbrev blob : BlobRecord
  blob = blob_record log id

  votes_are : votes_in kind blob ≡ votes_of log id kind
  votes_are = elim kind as (λ k. votes_in k blob ≡ votes_of log id k) [ Holds ↦ refl | Denies ↦ refl ]

  pub claim_unregistered : is_live log id ≡ false → claim kind context blob shard ≡ (saying.Unregistered, blob)
  claim_unregistered over = rw (le-leb (until_of log id) (reading log) (ltb-false (reading log) (until_of log id) over)) refl

  pub claim_expires : is_live log id ≡ true → until_of log id ≤ writing log → claim kind context blob shard ≡ (saying.Expires, blob)
  claim_expires live ends = rw (lt-leb (until_of log id) (reading log) (ltb-true (reading log) (until_of log id) live), le-leb (until_of log id) (writing log) ends) refl

  signed_is : signed_in (votes_in kind blob) (writing log) shard ≡ signers log id kind (writing log) shard
  signed_is = ap (λ (v : Votes). signed_in v (writing log) shard) votes_are ∙ signed_now log id kind shard lawful below

  pub claim_already : IsOpen log id → signers log id kind (writing log) shard ≡ true → claim kind context blob shard ≡ (saying.Already, blob)
  claim_already opened signed =
      rw (lt-leb (until_of log id) (reading log) (ltb-true (reading log) (until_of log id) opened.live), lt-leb (until_of log id) (writing log) opened.outlasts, signed_is, signed) refl

  abbrev new : Log
  new = entered log (claim_of kind shard id)

  abbrev after : Votes
  after = voted log.f (writing log) (writers context) shard (votes_in kind blob)

  record_is : with_votes kind after blob ≡ blob_record new id
  record_is =
      elim kind as (λ k. with_votes k (voted log.f (writing log) (writers context) shard (votes_in k blob)) blob ≡ blob_record (entered log (claim_of k shard id)) id) [
        | Holds ↦ sym (record_step log (Ack shard id) id lawful (id_itself id))
        | Denies ↦ sym (record_step log (Attest shard id) id lawful (id_itself id))
      ]

  after_is : votes_of new id kind ≡ after
  after_is = votes_claimed log kind shard id lawful
      ∙ (ap (λ (o : List ℕ). voted log.f (writing log) o shard (votes_of log id kind)) (sym (writers_is log)) ∙ ap (voted log.f (writing log) (writers context) shard) (sym votes_are))

  count_is : count_of log.f after ≡ signer_count new id kind (writing new)
  count_is =
      ap (count_of log.f) (sym after_is)
      ∙ count_within (committee_size log.f) (signers new id kind (last_of kind (own_entries new id)))
      ∙ ap (signer_count new id kind) (ap (λ (v : Votes). v.epoch) after_is ∙ sym (plain_stays log (claim_of kind shard id) (claim_plain kind shard id).0).writing)

  pub claim_entered : (count : ℕ) → MayClaim log kind shard id → count ≡ signer_count (entered log (claim_of kind shard id)) id kind (writing (entered log (claim_of kind shard id)))
      → claim kind context blob shard ≡ (tally log.f count, blob_record (entered log (claim_of kind shard id)) id)
  claim_entered count may is =
      let opened = may.open_to_claims in
      let counts : count_of log.f after ≡ count = count_is ∙ sym is in
      rw (lt-leb (until_of log id) (reading log) (ltb-true (reading log) (until_of log id) opened.live), lt-leb (until_of log id) (writing log) opened.outlasts, signed_is, may.first_time)
      (ap (λ (c : ℕ). (tally log.f c, with_votes kind after blob)) counts ∙ ap (λ (r : BlobRecord). (tally log.f count, r)) record_is)

-- a claim that is entered
claim_told : (old new : LedgerState) (kind : Kind) (id : BlobId) (shard count : ℕ) → IsLawful old.log → shard < committee_size old.log.f → MayClaim old.log kind shard id
    → new ≡ takes_in old (claim_of kind shard id) → count ≡ signer_count new.log id kind (writing new.log)
    → claim kind (context_of old.log) (blob_record old.log id) shard ≡ (tally old.log.f count, blob_record new.log id)
claim_told old more kind id shard count lawful below may is count_is =
    claim_entered old.log kind shard id lawful below count may (count_is ∙ ap (λ (l : LedgerState). signer_count l.log id kind (writing l.log)) is)
    ∙ ap (λ (l : LedgerState). (tally old.log.f count, blob_record l.log id)) (sym is)

tally_few : (f count : ℕ) → count < quorum_size f → tally f count ≡ saying.Counted count
tally_few f count few = rw (lt-ltb count (quorum_size f) few) refl

tally_enough : (f count : ℕ) → quorum_size f ≤ count → tally f count ≡ saying.Quorum count
tally_enough f count enough = rw (le-ltb count (quorum_size f) enough) refl

pub ack_is : (old new : LedgerState) (id : BlobId) (shard : ℕ) (answer : AckAnswer) → IsLawful old.log → shard < committee_size old.log.f → 0 < old.spare → Acks old shard id answer new
    → let told = claim Holds (context_of old.log) (blob_record old.log id) shard in (answer ≡ ack_word told.0) × (blob_record new.log id ≡ told.1)
ack_is old new id shard acking.Unregistered lawful below room (over, same) = rw (same, claim_unregistered old.log Holds shard id lawful below over) (refl, refl)
ack_is old new id shard acking.Expires lawful below room (live, ends, same) = rw (same, claim_expires old.log Holds shard id lawful below live ends) (refl, refl)
ack_is old new id shard acking.Already lawful below room (opened, signed, same) = rw (same, claim_already old.log Holds shard id lawful below opened signed) (refl, refl)
ack_is old new id shard acking.NoRoom lawful below room (may, none, same) = absurd (omega (arith, none, room))
ack_is old new id shard (acking.Counted count) lawful below room ((may, some, is, count_is), few) =
    let told = claim_told old new Holds id shard count lawful below may is count_is in
    (sym (ap (λ (t : Said × BlobRecord). ack_word t.0) told ∙ ap ack_word (tally_few old.log.f count few)), sym (ap (λ (t : Said × BlobRecord). t.1) told))
ack_is old new id shard (acking.Certified count) lawful below room ((may, some, is, count_is), enough) =
    let told = claim_told old new Holds id shard count lawful below may is count_is in
    (sym (ap (λ (t : Said × BlobRecord). ack_word t.0) told ∙ ap ack_word (tally_enough old.log.f count enough)), sym (ap (λ (t : Said × BlobRecord). t.1) told))

pub attest_is : (old new : LedgerState) (id : BlobId) (shard : ℕ) (answer : AttestAnswer) → IsLawful old.log → shard < committee_size old.log.f → 0 < old.spare → Attests old shard id answer new
    → let told = claim Denies (context_of old.log) (blob_record old.log id) shard in (answer ≡ attest_word told.0) × (blob_record new.log id ≡ told.1)
attest_is old new id shard attesting.Unregistered lawful below room (over, same) = rw (same, claim_unregistered old.log Denies shard id lawful below over) (refl, refl)
attest_is old new id shard attesting.Expires lawful below room (live, ends, same) = rw (same, claim_expires old.log Denies shard id lawful below live ends) (refl, refl)
attest_is old new id shard attesting.Already lawful below room (opened, signed, same) = rw (same, claim_already old.log Denies shard id lawful below opened signed) (refl, refl)
attest_is old new id shard attesting.NoRoom lawful below room (may, none, same) = absurd (omega (arith, none, room))
attest_is old new id shard (attesting.Counted count) lawful below room ((may, some, is, count_is), few) =
    let told = claim_told old new Denies id shard count lawful below may is count_is in
    (sym (ap (λ (t : Said × BlobRecord). attest_word t.0) told ∙ ap attest_word (tally_few old.log.f count few)), sym (ap (λ (t : Said × BlobRecord). t.1) told))
attest_is old new id shard (attesting.Invalid count) lawful below room ((may, some, is, count_is), enough) =
    let told = claim_told old new Denies id shard count lawful below may is count_is in
    (sym (ap (λ (t : Said × BlobRecord). attest_word t.0) told ∙ ap attest_word (tally_enough old.log.f count enough)), sym (ap (λ (t : Said × BlobRecord). t.1) told))

-- ---- Readiness.

-- how many shards are ready
pub ready_count_is : (log : Log) → ready_total log ≡ ready_count (context_of log)
ready_count_is log = sym (count_within (committee_size log.f) (ready_shards log))

pub ready_is : (old new : LedgerState) (shard : ℕ) (answer : ReadyAnswer) → IsLawful old.log → shard < committee_size old.log.f → 0 < old.spare → Readies old shard answer new
    → (answer, context_of new.log) ≡ ready (context_of old.log) shard
ready_is old new shard readying.Already lawful below room (here, same) =
    rw (same, lt-ltb shard (committee_size old.log.f) below, here) refl
ready_is old new shard readying.NoRoom lawful below room (out, none, same) = absurd (omega (arith, none, room))
ready_is old new shard (readying.Counted count) lawful below room (out, some, is, count_is) =
    let after : context_of new.log ≡ turn (context_of old.log) (Ready shard) =
    ap (λ (l : LedgerState). context_of l.log) is ∙ context_turn old.log (Ready shard) lawful (λ h. absurd (false≢true h)) (λ h. absurd (false≢true h)) in
    let counts : count ≡ ready_count (turn (context_of old.log) (Ready shard)) = count_is ∙ ready_count_is new.log ∙ ap ready_count after in
    told count (context_of new.log) counts after (ready_shards old.log shard) out (lt-ltb shard (committee_size old.log.f) below)
  where
    told : (count : ℕ) (after : Context) → count ≡ ready_count (turn (context_of old.log) (Ready shard)) → after ≡ turn (context_of old.log) (Ready shard)
        → (here : Bool) → here ≡ false → nat_lt shard (committee_size old.log.f) ≡ true
        → ◌≡◌ {A = ReadyAnswer × Context} (readying.Counted count, after) (cond (nat_lt shard (committee_size old.log.f) && here) (readying.Already, context_of old.log) (readying.Counted (ready_count (turn (context_of old.log) (Ready shard))), turn (context_of old.log) (Ready shard)))
    told count after counts is here out lt = rw (lt, out) (cc)
