-- One shard of a network changes what it holds.
use Rattle.std.specs.Prelude.{◌≡◌, ℕ, List, Result, Ok, Err, None, slice_set, slice_index_or}
use Rattle.std.specs.FinMap as map
use Rattle.wal_shape.specs.declared.metadata.BlobId.{BlobId}
use Rattle.wal_shape.specs.declared.axis.Side.{Side}
use Rattle.wal_shape.specs.declared.axis.Side.TheVariants.{Now, Next}
use Rattle.wal_store.specs.Contents.{Contents}
use Rattle.wal_ledger.specs.Ledger.{Log}
use Rattle.wal_shard.specs.declared.answers.Declined.{Declined}
use Rattle.wal_shard.specs.State.{ShardState}
use Rattle.wal_shard.specs.Vouching.{MayForget, without_slivers}
use Rattle.wal_world.specs.declared.network.Network.{Network}
use Rattle.wal_world.specs.inside.Books.{ledger_of}
use Rattle.wal_world.specs.inside.Network.{contents_in, shards_of}

-- what the shard at a place holds
abbrev pub contents_at : List ShardState → ℕ → Contents
contents_at shards place = slice_index_or (contents_in shards) place map.empty

-- the shards of f once the one at a place holds this
abbrev pub placed : ℕ → List ShardState → ℕ → Contents → List ShardState
placed f shards place contents =
    slice_set shards place (record { f = f; index = place; contents = contents; limit = None })

-- the side that a side is not
abbrev pub opposite : Side → Side
opposite Now = Next
opposite Next = Now

-- the shard of a side holds this from now on; all else of the network stays, but for what its
-- tables hold
pub record Places {H : Type 0} (side : Side) (old : Network H)
    (shard : ℕ) (contents : Contents) (new : Network H) : Type 0 where
  pub format : new.format ≡ old.format
  pub books : new.books ≡ old.books
  pub few : new.few ≡ old.few
  pub answers : new.answers ≡ old.answers
  pub buffer : new.buffer ≡ old.buffer
  pub work : new.work.f ≡ old.work.f
  pub shards : shards_of side new
      ≡ placed (ledger_of old.books).log.f (shards_of side old) shard contents
  pub others : shards_of (opposite side) new ≡ shards_of (opposite side) old

-- what a shard holds once it was asked to forget a blob, by its answer
abbrev pub LetsGo : Log → Contents → BlobId → Result (Unit {0}) Declined → Contents → Type 0
LetsGo log old id (Ok done) new = MayForget log old id × (new ≡ without_slivers old id)
LetsGo log old id (Err declined) new = (MayForget log old id → ⊥) × (new ≡ old)
