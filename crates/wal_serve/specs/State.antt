-- What a desk serves: a shard, and a ledger in its room.
use Rattle.std.specs.Prelude.{◌≡◌, ℕ, List}
use Rattle.wal_shape.specs.declared.metadata.BlobId.{BlobId}
use Rattle.wal_store.specs.Contents.{Contents}
use Rattle.wal_ledger.specs.Ledger.{LedgerState}
use Rattle.wal_epoch.specs.States.{ServingState}
use Rattle.wal_shard.specs.State.{ShardState, with_contents}

-- the shard: f, its number, what it holds and the limit of its pages; and the ledger: its entries,
-- and for how many more there is room
pub record ServedState : Type 0 where
  pub shard : ShardState
  pub ledger : LedgerState

-- a shard, and the ledger that is served beside it
abbrev pub state_of : ShardState → ServingState → ServedState
state_of shard serving = record { shard = shard; ledger = serving.ledger }

-- the same, but for the ledger
abbrev pub with_ledger : ServedState → LedgerState → ServedState
with_ledger state ledger = record { shard = state.shard; ledger = ledger }

-- the same, but for what the shard holds
abbrev pub holding : ServedState → Contents → ServedState
holding state contents =
    record { shard = with_contents state.shard contents; ledger = state.ledger }

-- the identifier of these bytes
abbrev pub named : List ℕ → BlobId
named id = record { 0 = id }

-- the shard keeps f, its number and the limit of its pages
pub record SamePlace (old new : ShardState) : Type 0 where
  pub f : new.f ≡ old.f
  pub index : new.index ≡ old.index
  pub limit : new.limit ≡ old.limit
