-- What is kept beside a ledger, by the identifiers of the blobs.
use Rattle.std.specs.Prelude.{◌≡◌, ℕ, ◌+◌, ◌⊎◌, Bool, true, false, List, [], map, Some}
use Rattle.std.specs.Prelude.{slice_get, Ok, Err}
use Rattle.wal_shape.specs.declared.metadata.BlobId.{BlobId}
use Rattle.wal_ledger.specs.declared.entry.Body.{Body}
use Rattle.wal_ledger.specs.declared.entry.Body.TheVariants as saying
use Rattle.wal_ledger.specs.declared.entry.Kind.TheVariants.{Holds, Denies}
use Rattle.wal_ledger.specs.declared.answers.RegisterAnswer.{RegisterAnswer}
use Rattle.wal_ledger.specs.declared.answers.ReadyAnswer.{ReadyAnswer}
use Rattle.wal_ledger.specs.Answers.{Registers, Acks, Attests, Readies}
use Rattle.wal_ledger.specs.Kept.{IsLawful}
use Rattle.wal_ledger.specs.Ledger.{Log, LedgerState, reading, writing, is_moving}
use Rattle.wal_epoch.specs.declared.answers.BeginError.TheVariants.{LastEpoch}
use Rattle.wal_epoch.specs.declared.answers.FinishError.TheVariants as finishing
use Rattle.wal_epoch.specs.Moves.{Begins, FinishesEpoch}
use Rattle.wal_epoch.specs.States.{ServingState, MovingState}
use Rattle.wal_record.specs.declared.outcome.Said.{Said}
use Rattle.wal_record.specs.Record.{blob_record}
use Rattle.wal_record.specs.Context.{context_of}
use Rattle.wal_record.specs.Questions.{ack_word, attest_word}
use Rattle.wal_follow.specs.declared.item.Item.{Item}
use Rattle.wal_follow.specs.declared.item.Item.TheVariants.{Register, Ack, Attest, Ready, Begin, Finish}
use Rattle.wal_follow.specs.declared.outcome.Outcome.{Outcome}
use Rattle.wal_follow.specs.declared.outcome.Outcome.TheVariants as coming
use Rattle.wal_follow.specs.Outcomes.{registered, claimed, readied}
use Rattle.wal_follow.specs.Enter.{Kept}

-- what a ledger has for these blobs: its context, and the record of each
abbrev pub kept_of : List BlobId → Log → Kept
kept_of ids log = record { context = context_of log; blobs = map (blob_record log) ids }

-- no identifier stands at two places
abbrev pub AreApart : List BlobId → Type 0
AreApart ids =
    (i j : ℕ) (id : BlobId) → slice_get ids i ≡ Some id → slice_get ids j ≡ Some id → i ≡ j

-- an entry that names a blob by its place says this of the identifier there
abbrev pub Says : List BlobId → Item → Body → Type 0
Says ids (Register blob until) body =
    (id : BlobId) × (slice_get ids blob ≡ Some id) × (body ≡ saying.Register id until)
Says ids (Ack blob shard) body =
    (id : BlobId) × (slice_get ids blob ≡ Some id) × (body ≡ saying.Ack shard id)
Says ids (Attest blob shard) body =
    (id : BlobId) × (slice_get ids blob ≡ Some id) × (body ≡ saying.Attest shard id)
Says ids (Ready shard) body = body ≡ saying.Ready shard
Says ids (Begin owners) body = body ≡ saying.Begin owners
Says ids Finish body = body ≡ saying.Finish

-- the states of an epoch with this ledger that call no shard faulty, and carry none over
abbrev pub serving_with : LedgerState → ServingState
serving_with ledger = record { ledger = ledger; faulty = [] }

abbrev pub moving_with : LedgerState → MovingState
moving_with ledger = record { ledger = ledger; faulty_now = []; faulty_next = []; stays = [] }

-- a ledger whose epoch changes, or does not, refuses an entry
abbrev pub Refuses : Bool → LedgerState → LedgerState → Type 0
Refuses moving old new = (is_moving old.log ≡ moving) × (new ≡ old)

-- a change begins, by its outcome
abbrev pub TellsBegin : LedgerState → List ℕ → Outcome → LedgerState → Type 0
TellsBegin old owners (coming.Epoch epoch) new =
    (is_moving old.log ≡ false) × (epoch ≡ reading old.log + 1)
    × Begins (serving_with old) owners [] [] (Ok (moving_with new))
TellsBegin old owners coming.RefusedLastEpoch new =
    (is_moving old.log ≡ false)
    × Begins (serving_with old) owners [] [] (Err (serving_with new, LastEpoch))
TellsBegin old owners coming.RefusedMoving new = Refuses true old new
TellsBegin old owners _ new = ⊥

-- a change ends, by its outcome
abbrev pub TellsFinish : LedgerState → Outcome → LedgerState → Type 0
TellsFinish old (coming.Epoch epoch) new =
    (is_moving old.log ≡ true) × (epoch ≡ writing old.log)
    × FinishesEpoch (moving_with old) (Ok (serving_with new))
TellsFinish old (coming.Waiting ready) new =
    (is_moving old.log ≡ true)
    × FinishesEpoch (moving_with old) (Err (moving_with new, finishing.Waiting ready))
TellsFinish old coming.RefusedNotMoving new = Refuses false old new
TellsFinish old _ new = ⊥

-- an entry is posted to a ledger: the old ledger, the outcome, which says what the ledger answers,
-- and the new ledger
abbrev pub Tells : LedgerState → Body → Outcome → LedgerState → Type 0
Tells old (saying.Register id until) outcome new =
    (answer : RegisterAnswer) × Registers old id until answer new × (outcome ≡ registered answer)
Tells old (saying.Ack shard id) outcome new =
    (said : Said) × Acks old shard id (ack_word said) new × (outcome ≡ claimed Holds said)
Tells old (saying.Attest shard id) outcome new =
    (said : Said) × Attests old shard id (attest_word said) new × (outcome ≡ claimed Denies said)
Tells old (saying.Ready shard) outcome new =
    (Refuses false old new × (outcome ≡ coming.RefusedNotMoving))
    ⊎ ((is_moving old.log ≡ true)
    × ((answer : ReadyAnswer) × Readies old shard answer new × (outcome ≡ readied answer)))
Tells old (saying.Begin owners) outcome new = TellsBegin old owners outcome new
Tells old saying.Finish outcome new = TellsFinish old outcome new

-- the outcome of an entry is the ledger's, and what is kept after it is what the ledger then has,
-- which is lawful
pub record KeepsUp (ids : List BlobId) (old : LedgerState) (body : Body)
    (told : Outcome × Kept) : Type 0 where
  pub ledger : LedgerState
  pub tells : Tells old body told.0 ledger
  pub lawful : IsLawful ledger.log
  pub same : told.1 ≡ kept_of ids ledger.log
