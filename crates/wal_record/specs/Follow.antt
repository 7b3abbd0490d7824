-- Entries one after the other.
use Rattle.std.specs.Prelude.{◌≡◌, ◌<◌, ◌⊎◌, Bool, true, false, not, ◌&&◌, cond, nat_lt, nat_le}
use Rattle.std.specs.Prelude.{List, [], ◌∷◌}
use Rattle.wal_shape.specs.declared.metadata.BlobId.{BlobId}
use Rattle.wal_ledger.specs.declared.entry.Body.{Body}
use Rattle.wal_ledger.specs.declared.entry.Body.TheVariants.{Register, Ack, Attest, Ready, Begin, Finish}
use Rattle.wal_ledger.specs.declared.entry.Kind.TheVariants.{Holds, Denies}
use Rattle.wal_ledger.specs.Answers.{Registers, Acks, Attests}
use Rattle.wal_ledger.specs.Kept.{IsLawful}
use Rattle.wal_ledger.specs.Ledger.{Log, LedgerState, names}
use Rattle.wal_ledger.specs.Shards.{committee_size, quorum_size}
use Rattle.wal_shape.specs.Owners.{are_owners}
use Rattle.wal_record.specs.declared.outcome.Answer.{Answer}
use Rattle.wal_record.specs.declared.outcome.Answer.TheVariants as answering
use Rattle.wal_record.specs.Record.{BlobRecord, blob_record, no_record}
use Rattle.wal_record.specs.Context.{Context, context_of, step, turn}
use Rattle.wal_record.specs.Questions.{register, claim, ack_word, attest_word, lives, ready_count}
use Rattle.wal_record.specs.Questions.{certificate_in, is_invalid_in, must_hold_in}

-- what an entry is answered that names a blob, where there is room, and the blob's record after it
abbrev pub enter : Context → BlobRecord → Body → Answer × BlobRecord
enter context blob (Register id until) =
    let told = register context blob until in (answering.Registration told.0, told.1)
enter context blob (Ack shard id) =
    let told = claim Holds context blob shard in
    (answering.Acknowledgement (ack_word told.0), told.1)
enter context blob (Attest shard id) =
    let told = claim Denies context blob shard in
    (answering.Attestation (attest_word told.0), told.1)
enter context blob _ = (answering.Nothing, blob)

-- whether a ledger with this context takes an entry: shards are of the committee, changes of the
-- epoch come one after the other, and one ends once a quorum of the next committee is ready
abbrev pub takes : Context → Body → Bool
takes context (Register id until) = true
takes context (Ack shard id) = nat_lt shard (committee_size context.f)
takes context (Attest shard id) = nat_lt shard (committee_size context.f)
takes context (Ready shard) = context.moving && nat_lt shard (committee_size context.f)
takes context (Begin owners) =
    not context.moving
    && (nat_lt context.epoch 65535 && are_owners (committee_size context.f) owners)
takes context Finish =
    context.moving && nat_le (quorum_size context.f) (ready_count context)

-- whether it takes entries one after the other
abbrev pub takes_all : Context → List Body → Bool
takes_all context [] = true
takes_all context (body ∷ bodies) =
    takes context body && takes_all (turn context body) bodies

-- what a follower of a ledger keeps for one blob
pub record Followed : Type 0 where
  pub context : Context
  pub blob : BlobRecord

-- after one more entry
abbrev pub follow : BlobId → Followed → Body → Followed
follow id kept body = record {
  context = turn kept.context body;
  blob = cond (names id body) (step kept.context kept.blob body) kept.blob;
}

-- an entry that names a blob is posted to a ledger: the old ledger, the answer, and the new ledger
abbrev pub Posts : LedgerState → Body → Answer → LedgerState → Type 0
Posts old (Register id until) (answering.Registration answer) new = Registers old id until answer new
Posts old (Ack shard id) (answering.Acknowledgement answer) new =
    (shard < committee_size old.log.f) × Acks old shard id answer new
Posts old (Attest shard id) (answering.Attestation answer) new =
    (shard < committee_size old.log.f) × Attests old shard id answer new
Posts old _ _ new = ⊥

-- what a follower needs to keep after an entry that was posted
pub record IsPosted (old : Log) (body : Body) (answer : Answer) (new : Log) : Type 0 where
  pub context : context_of new ≡ context_of old
  pub named : (id : BlobId) → names id body ≡ true
      → (answer, blob_record new id) ≡ enter (context_of old) (blob_record old id) body
  pub other : (id : BlobId) → names id body ≡ false → blob_record new id ≡ blob_record old id
  pub lawful : IsLawful new

-- what need be kept of a blob: nothing, where it is not live
abbrev pub kept : Context → BlobRecord → BlobRecord
kept context blob = cond (lives context blob) blob no_record

-- a record and what need be kept of it serve alike
pub record ServesAlike (context : Context) (blob : BlobRecord) : Type 0 where
  pub live : lives context (kept context blob) ≡ lives context blob
  pub certificate : certificate_in context (kept context blob) ≡ certificate_in context blob
  pub invalid : is_invalid_in context (kept context blob) ≡ is_invalid_in context blob
  pub must_hold : must_hold_in context (kept context blob) ≡ must_hold_in context blob
  pub answers : (body : Body)
      → (enter context (kept context blob) body).0 ≡ (enter context blob body).0
  pub entered : (body : Body)
      → kept context (enter context (kept context blob) body).1
      ≡ kept context (enter context blob body).1
  pub turned : (body : Body)
      → kept (turn context body) (kept context blob) ≡ kept (turn context body) blob

-- no vote is of an epoch at which the registration had ended
abbrev pub IsTimely : BlobRecord → Type 0
IsTimely blob =
    (blob ≡ no_record) ⊎ ((blob.holds.epoch < blob.until) × (blob.denies.epoch < blob.until))
