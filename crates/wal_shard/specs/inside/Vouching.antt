-- What serves private functions and proofs beside Vouching.
use Rattle.std.specs.Prelude.{◌≡◌, ◌≤◌, true, false, Result, Ok, Err}
use Rattle.wal_shape.specs.declared.metadata.BlobId.{BlobId}
use Rattle.wal_ledger.specs.Ledger.{Log, is_live, until_of, writing}
use Rattle.wal_ledger.specs.Answers.{IsOpen}
use Rattle.wal_shard.specs.declared.answers.AckRefusal.{AckRefusal}
use Rattle.wal_shard.specs.declared.answers.AckRefusal.TheVariants.{Unregistered, Expires, Declined}

-- an identifier is open to claims, or else why it isn't
abbrev pub MayVouch : Log → BlobId → Result (Unit {0}) AckRefusal → Type 0
MayVouch log id (Ok done) = IsOpen log id
MayVouch log id (Err Unregistered) = is_live log id ≡ false
MayVouch log id (Err Expires) = (is_live log id ≡ true) × (until_of log id ≤ writing log)
MayVouch log id (Err Declined) = ⊥
