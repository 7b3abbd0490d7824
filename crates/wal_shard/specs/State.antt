-- The state of a shard.
use Rattle.std.specs.Prelude.{◌≡◌, ℕ, ◌<◌, ◌≤◌, List, Option}
use Rattle.wal_shape.specs.declared.metadata.BlobId.{BlobId}
use Rattle.wal_shape.specs.Shape.{shard_count}
use Rattle.wal_shape.specs.Metadata.{BlobMetadata}
use Rattle.wal_store.specs.Parts.{Parts}
use Rattle.wal_store.specs.Contents.{Contents, parts_at}
use Rattle.wal_ledger.specs.Ledger.{Log}
use Rattle.wal_commit.specs.Identifier.{Commits}
use Rattle.wal_shard.specs.Holding.{IsSound, HoldsMetadata}
use Rattle.wal_shard.specs.Putting.{PutDesk}

-- the committee's f, the shard's number, what it holds, and the most pages that all holdings may
-- cost
pub record ShardState : Type 0 where
  pub f : ℕ
  pub index : ℕ
  pub contents : Contents
  pub limit : Option ℕ

-- the same shard, but for what it holds
abbrev pub with_contents : ShardState → Contents → ShardState
with_contents state contents = record state { contents = contents }

-- the shard beside a ledger
abbrev pub desk_of : ℕ → ℕ → Option ℕ → Log → PutDesk
desk_of f index limit log = record { f = f; shard = index; limit = limit; log = log }

-- what a put is judged by: the shard and its ledger
abbrev pub desk : ShardState → Log → PutDesk
desk state log = desk_of state.f state.index state.limit log

-- a number of faults, and the number of a shard of that committee
abbrev pub IsPlace : ℕ → ℕ → Type 0
IsPlace f index = (1 ≤ f) × (f ≤ 333) × (index < shard_count f)

-- what is held under every identifier is sound
abbrev pub AreSound : (List ℕ → List ℕ) → ℕ → ℕ → Contents → Type 0
AreSound digest f index contents =
    (id : BlobId) → IsSound digest f id.0 index (parts_at contents id)

-- the metadata that is held: of the committee's f, and the identifier commits it
pub record IsOwnMetadata (digest : List ℕ → List ℕ) (f : ℕ)
    (id : List ℕ) (parts : Parts) (metadata : BlobMetadata) : Type 0 where
  pub held : HoldsMetadata parts metadata
  pub commits : Commits digest id metadata
  pub faults : metadata.f ≡ f
