-- What a follower keeps after an entry that was posted.
use Rattle.std.proofs.Common.{◌≡◌, ℕ, ◌<◌, ◌⊎◌, inl, inr, true, false, refl, sym, ap, ◌∙◌, subst}
use Rattle.std.proofs.lemmas.Bool.{false≢true, lt-ltb}
use Rattle.wal_shape.specs.declared.metadata.BlobId.{BlobId}
use Rattle.wal_ledger.specs.declared.entry.Body.{Body}
use Rattle.wal_ledger.specs.declared.entry.Body.TheVariants.{Register, Ack, Attest}
use Rattle.wal_ledger.specs.declared.entry.Kind.TheVariants.{Holds, Denies}
use Rattle.wal_ledger.specs.declared.answers.RegisterAnswer.{RegisterAnswer}
use Rattle.wal_ledger.specs.declared.answers.RegisterAnswer.TheVariants as registering
use Rattle.wal_ledger.specs.declared.answers.AckAnswer.{AckAnswer}
use Rattle.wal_ledger.specs.declared.answers.AckAnswer.TheVariants as acking
use Rattle.wal_ledger.specs.declared.answers.AttestAnswer.{AttestAnswer}
use Rattle.wal_ledger.specs.declared.answers.AttestAnswer.TheVariants as attesting
use Rattle.wal_ledger.specs.Answers.{Registers, Acks, Attests}
use Rattle.wal_ledger.specs.Shards.{committee_size}
use Rattle.wal_ledger.specs.Ledger.{Log, LedgerState, takes_in, names, is_begin, is_finish}
use Rattle.wal_ledger.specs.Kept.{IsLawful}
use Rattle.wal_ledger.proofs.RowsPlace.{id_same}
use Rattle.wal_record.specs.declared.outcome.Answer.{Answer}
use Rattle.wal_record.specs.declared.outcome.Answer.TheVariants as answering
use Rattle.wal_record.specs.Record.{BlobRecord, blob_record}
use Rattle.wal_record.specs.Context.{Context, context_of, turn}
use Rattle.wal_record.specs.Questions.{claim, ack_word, attest_word}
use Rattle.wal_record.specs.Follow.{takes, enter, Posts, IsPosted}
use Rattle.wal_record.proofs.Turning.{record_kept, context_turn}
use Rattle.wal_record.proofs.Entering.{register_is, ack_is, attest_is}
use Rattle.wal_record.proofs.Lawful.{lawful_kept}

-- the entry was refused, or it stands in the ledger
abbrev pub Either : LedgerState → Body → LedgerState → Type 0
Either old body new = (new ≡ old) ⊎ (new ≡ takes_in old body)

either_register : (old new : LedgerState) (id : BlobId) (until : ℕ) (answer : RegisterAnswer) → Registers old id until answer new → Either old (Register id until) new
either_register old new id until registering.Past h = inl h.1
either_register old new id until registering.MovingExtension h = inl h.2
either_register old new id until registering.NoRoom h = inl h.2
either_register old new id until (registering.Registered most) h = inr h.2

either_ack : (old new : LedgerState) (id : BlobId) (shard : ℕ) (answer : AckAnswer) → Acks old shard id answer new → Either old (Ack shard id) new
either_ack old new id shard acking.Unregistered h = inl h.1
either_ack old new id shard acking.Expires h = inl h.2
either_ack old new id shard acking.Already h = inl h.2
either_ack old new id shard acking.NoRoom h = inl h.2
either_ack old new id shard (acking.Counted count) h = inr h.0.2
either_ack old new id shard (acking.Certified count) h = inr h.0.2

either_attest : (old new : LedgerState) (id : BlobId) (shard : ℕ) (answer : AttestAnswer) → Attests old shard id answer new → Either old (Attest shard id) new
either_attest old new id shard attesting.Unregistered h = inl h.1
either_attest old new id shard attesting.Expires h = inl h.2
either_attest old new id shard attesting.Already h = inl h.2
either_attest old new id shard attesting.NoRoom h = inl h.2
either_attest old new id shard (attesting.Counted count) h = inr h.0.2
either_attest old new id shard (attesting.Invalid count) h = inr h.0.2

-- entries that name a blob leave the context
record Names (log : Log) (body : Body) : Type 0 where
  no_begin : is_begin body ≡ false
  no_finish : is_finish body ≡ false
  still : (c : Context) → turn c body ≡ c
  taken : takes (context_of log) body ≡ true

posted : (old new : LedgerState) (body : Body) (answer : Answer) → IsLawful old.log → Names old.log body
    → ((id : BlobId) → names id body ≡ true → (answer, blob_record new.log id) ≡ enter (context_of old.log) (blob_record old.log id) body)
    → Either old body new → IsPosted old.log body answer new.log
posted old new body answer lawful name named (inl same) = record {
  context = ap (λ (l : LedgerState). context_of l.log) same;
  named = named;
  other = λ id h. ap (λ (l : LedgerState). blob_record l.log id) same;
  lawful = subst (λ (l : LedgerState). IsLawful l.log) (sym same) lawful;
}
posted old new body answer lawful name named (inr is) =
    record {
      context = ap (λ (l : LedgerState). context_of l.log) is ∙ context_turn old.log body lawful (λ h. absurd (false≢true (sym name.no_begin ∙ h))) (λ h. absurd (false≢true (sym name.no_finish ∙ h))) ∙ name.still (context_of old.log);
      named = named;
      other = λ id h. ap (λ (l : LedgerState). blob_record l.log id) is ∙ record_kept old.log body id lawful (λ b. absurd (false≢true (sym name.no_begin ∙ b))) h;
      lawful = subst (λ (l : LedgerState). IsLawful l.log) (sym is) (lawful_kept old.log body lawful name.taken);
    }

pub post_is : (old new : LedgerState) (body : Body) (answer : Answer) → IsLawful old.log → 0 < old.spare → Posts old body answer new → IsPosted old.log body answer new.log
post_is old new (Register i until) (answering.Registration answer) lawful room posts =
    posted old new (Register i until) (answering.Registration answer) lawful (record { no_begin = refl; no_finish = refl; still = λ c. refl; taken = refl })
    (λ id named. subst (λ (j : BlobId). (answering.Registration answer, blob_record new.log j) ≡ enter (context_of old.log) (blob_record old.log j) (Register i until)) (id_same i id named)
    (ap (λ (t : RegisterAnswer × BlobRecord). (answering.Registration t.0, t.1)) (register_is old new i until answer lawful room posts)))
    (either_register old new i until answer posts)
post_is old new (Ack shard i) (answering.Acknowledgement answer) lawful room (below, posts) =
    posted old new (Ack shard i) (answering.Acknowledgement answer) lawful (record { no_begin = refl; no_finish = refl; still = λ c. refl; taken = lt-ltb shard (committee_size old.log.f) below })
    (λ id named. subst (λ (j : BlobId). (answering.Acknowledgement answer, blob_record new.log j) ≡ enter (context_of old.log) (blob_record old.log j) (Ack shard i)) (id_same i id named)
    (let told = ack_is old new i shard answer lawful below room posts in
    ap (λ (a : AckAnswer). (answering.Acknowledgement a, blob_record new.log i)) told.0
    ∙ ap (λ (r : BlobRecord). (answering.Acknowledgement (ack_word (claim Holds (context_of old.log) (blob_record old.log i) shard).0), r)) told.1))
    (either_ack old new i shard answer posts)
post_is old new (Attest shard i) (answering.Attestation answer) lawful room (below, posts) =
    posted old new (Attest shard i) (answering.Attestation answer) lawful (record { no_begin = refl; no_finish = refl; still = λ c. refl; taken = lt-ltb shard (committee_size old.log.f) below })
    (λ id named. subst (λ (j : BlobId). (answering.Attestation answer, blob_record new.log j) ≡ enter (context_of old.log) (blob_record old.log j) (Attest shard i)) (id_same i id named)
    (let told = attest_is old new i shard answer lawful below room posts in
    ap (λ (a : AttestAnswer). (answering.Attestation a, blob_record new.log i)) told.0
    ∙ ap (λ (r : BlobRecord). (answering.Attestation (attest_word (claim Denies (context_of old.log) (blob_record old.log i) shard).0), r)) told.1))
    (either_attest old new i shard answer posts)
post_is old new _ _ lawful room posts = absurd posts
