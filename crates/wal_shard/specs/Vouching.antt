-- What a shard says of an identifier by what it holds: acknowledgements, attestations, readiness;
-- and what it lets go.
use Rattle.std.specs.Prelude.{◌≡◌, ◌≤◌, Bool, true, false, Result, Ok, Err}
use Rattle.std.specs.FinMap as map
use Rattle.wal_shape.specs.declared.metadata.BlobId.{BlobId}
use Rattle.wal_shape.specs.declared.part.Part.TheVariants as parts
use Rattle.wal_store.specs.Parts.{Parts}
use Rattle.wal_store.specs.Contents.{Contents, parts_at, without_part}
use Rattle.wal_ledger.specs.declared.entry.Kind.{Kind}
use Rattle.wal_ledger.specs.declared.entry.Kind.TheVariants.{Holds, Denies}
use Rattle.wal_ledger.specs.Ledger.{Log, is_live, until_of, writing, IsInvalid, MustHold}
use Rattle.wal_ledger.specs.Answers.{IsOpen}
use Rattle.wal_shard.specs.declared.answers.AckRefusal.{AckRefusal}
use Rattle.wal_shard.specs.declared.answers.AckRefusal.TheVariants.{Unregistered, Expires, Declined}
use Rattle.wal_shard.specs.Holding.{settled_by_slivers, has_proof, settled}

-- whether what is held backs an acknowledgement, or an attestation
abbrev pub backs : Kind → Parts → Bool
backs Holds held = settled_by_slivers held
backs Denies held = has_proof held

-- `acknowledge` and `attest`, by their answer
abbrev pub Vouches : Kind → Log → Contents → BlobId → Result (Unit {0}) AckRefusal → Type 0
Vouches kind log contents id (Ok done) = IsOpen log id × (backs kind (parts_at contents id) ≡ true)
Vouches kind log contents id (Err Unregistered) = is_live log id ≡ false
Vouches kind log contents id (Err Expires) =
    (is_live log id ≡ true) × (until_of log id ≤ writing log)
Vouches kind log contents id (Err Declined) =
    IsOpen log id × (backs kind (parts_at contents id) ≡ false)

-- the contents without both slivers of an identifier
abbrev pub without_slivers : Contents → BlobId → Contents
without_slivers contents id =
    without_part (without_part contents id parts.Primary) id parts.Secondary

-- the slivers of an identifier may go: the ledger says that it is invalid, and a proof is held
pub record MayForget (log : Log) (contents : Contents) (id : BlobId) : Type 0 where
  pub invalid : IsInvalid log id
  pub proof : has_proof (parts_at contents id) ≡ true

-- everything that must be held is settled
abbrev pub IsReady : Log → Contents → Type 0
IsReady log contents = (id : BlobId) → MustHold log id → settled (parts_at contents id) ≡ true

-- the contents without what is not live
abbrev pub without_dead : Log → Contents → Contents
without_dead log contents = map.retain_keys contents (is_live log)
