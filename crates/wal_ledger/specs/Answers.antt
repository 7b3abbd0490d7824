-- The answers of the calls that enter something, and when each is given.
use Rattle.std.specs.Prelude.{◌≡◌, ℕ, ◌<◌, ◌≤◌, Bool, true, false, ◌&&◌}
use Rattle.wal_shape.specs.declared.metadata.BlobId.{BlobId}
use Rattle.wal_ledger.specs.declared.entry.Body.{Body}
use Rattle.wal_ledger.specs.declared.entry.Body.TheVariants.{Register, Ack, Attest, Ready}
use Rattle.wal_ledger.specs.declared.entry.Kind.{Kind}
use Rattle.wal_ledger.specs.declared.entry.Kind.TheVariants.{Holds, Denies}
use Rattle.wal_ledger.specs.declared.answers.RegisterAnswer.{RegisterAnswer}
use Rattle.wal_ledger.specs.declared.answers.RegisterAnswer.TheVariants as registering
use Rattle.wal_ledger.specs.declared.answers.AckAnswer.{AckAnswer}
use Rattle.wal_ledger.specs.declared.answers.AckAnswer.TheVariants as acking
use Rattle.wal_ledger.specs.declared.answers.AttestAnswer.{AttestAnswer}
use Rattle.wal_ledger.specs.declared.answers.AttestAnswer.TheVariants as attesting
use Rattle.wal_ledger.specs.declared.answers.ReadyAnswer.{ReadyAnswer}
use Rattle.wal_ledger.specs.declared.answers.ReadyAnswer.TheVariants as readying
use Rattle.wal_ledger.specs.declared.answers.ClaimAnswer.{ClaimAnswer}
use Rattle.wal_ledger.specs.declared.answers.ClaimAnswer.TheVariants as claiming
use Rattle.wal_ledger.specs.Shards.{quorum_size}
use Rattle.wal_ledger.specs.Ledger.{Log, LedgerState, is_moving, is_live, until_of, writing}
use Rattle.wal_ledger.specs.Ledger.{signers, signer_count, ready_shards, ready_total, takes_in}

-- a registration of a live identifier while the epoch changes
abbrev pub is_moving_extension : Log → BlobId → Bool
is_moving_extension log id = is_moving log && is_live log id

-- a registration beyond the writing epoch, and no extension while the epoch changes
pub record MayRegister (log : Log) (id : BlobId) (until : ℕ) : Type 0 where
  pub beyond : writing log < until
  pub allowed : is_moving_extension log id ≡ false

-- `register`, by its answer: the old ledger, what is asked, the answer, and the new ledger
abbrev pub Registers : LedgerState → BlobId → ℕ → RegisterAnswer → LedgerState → Type 0
Registers old id until registering.Past new = (until ≤ writing old.log) × (new ≡ old)
Registers old id until registering.MovingExtension new =
    (writing old.log < until) × (is_moving_extension old.log id ≡ true) × (new ≡ old)
Registers old id until registering.NoRoom new =
    MayRegister old.log id until × (old.spare ≡ 0) × (new ≡ old)
Registers old id until (registering.Registered most) new =
    MayRegister old.log id until × (0 < old.spare) × (new ≡ takes_in old (Register id until))
    × (most ≡ until_of new.log id)

-- a live identifier that outlasts the writing epoch
pub record IsOpen (log : Log) (id : BlobId) : Type 0 where
  pub live : is_live log id ≡ true
  pub outlasts : writing log < until_of log id

-- the identifier is open, and the shard's node has not yet made the claim in the writing epoch
pub record MayClaim (log : Log) (kind : Kind) (shard : ℕ) (id : BlobId) : Type 0 where
  pub open_to_claims : IsOpen log id
  pub first_time : signers log id kind (writing log) shard ≡ false

-- the entry by which a shard makes a claim
abbrev pub claim_of : Kind → ℕ → BlobId → Body
claim_of Holds shard id = Ack shard id
claim_of Denies shard id = Attest shard id

-- the entry is made, and `count` shards are now of nodes that made the claim
abbrev pub Claimed : Kind → LedgerState → ℕ → BlobId → ℕ → LedgerState → Type 0
Claimed kind old shard id count new =
    MayClaim old.log kind shard id × (0 < old.spare) × (new ≡ takes_in old (claim_of kind shard id))
    × (count ≡ signer_count new.log id kind (writing new.log))

-- `ack` and `attest`, by their answer
abbrev pub Claims : Kind → LedgerState → ℕ → BlobId → ClaimAnswer → LedgerState → Type 0
Claims kind old shard id claiming.Unregistered new = (is_live old.log id ≡ false) × (new ≡ old)
Claims kind old shard id claiming.Expires new =
    (is_live old.log id ≡ true) × (until_of old.log id ≤ writing old.log) × (new ≡ old)
Claims kind old shard id claiming.Already new =
    IsOpen old.log id × (signers old.log id kind (writing old.log) shard ≡ true) × (new ≡ old)
Claims kind old shard id claiming.NoRoom new =
    MayClaim old.log kind shard id × (old.spare ≡ 0) × (new ≡ old)
Claims kind old shard id (claiming.Counted count) new =
    Claimed kind old shard id count new × (count < quorum_size old.log.f)
Claims kind old shard id (claiming.Quorum count) new =
    Claimed kind old shard id count new × (quorum_size old.log.f ≤ count)

-- the answers of both calls as one
abbrev pub acked : AckAnswer → ClaimAnswer
acked (acking.Counted count) = claiming.Counted count
acked (acking.Certified count) = claiming.Quorum count
acked acking.Already = claiming.Already
acked acking.Unregistered = claiming.Unregistered
acked acking.Expires = claiming.Expires
acked acking.NoRoom = claiming.NoRoom

abbrev pub attested : AttestAnswer → ClaimAnswer
attested (attesting.Counted count) = claiming.Counted count
attested (attesting.Invalid count) = claiming.Quorum count
attested attesting.Already = claiming.Already
attested attesting.Unregistered = claiming.Unregistered
attested attesting.Expires = claiming.Expires
attested attesting.NoRoom = claiming.NoRoom

-- an acknowledgement, by its answer
abbrev pub Acks : LedgerState → ℕ → BlobId → AckAnswer → LedgerState → Type 0
Acks old shard id answer new = Claims Holds old shard id (acked answer) new

-- an attestation that a blob is badly encoded, by its answer
abbrev pub Attests : LedgerState → ℕ → BlobId → AttestAnswer → LedgerState → Type 0
Attests old shard id answer new = Claims Denies old shard id (attested answer) new

-- `ready`, by its answer
abbrev pub Readies : LedgerState → ℕ → ReadyAnswer → LedgerState → Type 0
Readies old shard readying.Already new = (ready_shards old.log shard ≡ true) × (new ≡ old)
Readies old shard readying.NoRoom new =
    (ready_shards old.log shard ≡ false) × (old.spare ≡ 0) × (new ≡ old)
Readies old shard (readying.Counted count) new =
    (ready_shards old.log shard ≡ false) × (0 < old.spare) × (new ≡ takes_in old (Ready shard))
    × (count ≡ ready_total new.log)

-- the least epoch in which a quorum acknowledged a live identifier, and how many shards did
pub record IsCertificate (log : Log) (id : BlobId) (epoch count : ℕ) : Type 0 where
  pub live : is_live log id ≡ true
  pub counted : count ≡ signer_count log id Holds epoch
  pub quorum : quorum_size log.f ≤ count
  pub least : (earlier : ℕ) → earlier < epoch
      → signer_count log id Holds earlier < quorum_size log.f
