-- What a shard that recovers a sliver knows of the blob's metadata, and the result of its recovery.
use Rattle.std.specs.Prelude.{◌≡◌, ℕ, List, Option, Some, None}
use Rattle.wal_shape.specs.declared.metadata.BlobId.{BlobId}
use Rattle.wal_shape.specs.declared.axis.Axis.{Axis}
use Rattle.wal_shape.specs.declared.axis.Side.{Side}
use Rattle.wal_shape.specs.Metadata.{BlobMetadata}
use Rattle.wal_shape.specs.Spelling.{metadata_text}
use Rattle.wal_tree.specs.Collision.{IsCollision}
use Rattle.wal_commit.specs.Identifier.{Commits}
use Rattle.wal_event.specs.declared.line.RecoverWord.{RecoverWord}
use Rattle.wal_store.specs.Parts.{Parts}
use Rattle.wal_store.specs.Contents.{Contents}
use Rattle.wal_shard.specs.State.{IsOwnMetadata}
use Rattle.wal_world.specs.declared.knowing.Known.{Known}
use Rattle.wal_world.specs.declared.knowing.Known.TheVariants.{Absent, One, Two}
use Rattle.wal_protocol.specs.State.{World, side_of, contents_of, keeps}
use Rattle.wal_theorem.specs.Instance.{Knows, KnowsTwo, RecoversTo}

-- what a shard holds as metadata: none, or this one
abbrev pub IsHeldMetadata : (List ℕ → List ℕ) → ℕ → List ℕ → Parts → Option BlobMetadata → Type 0
IsHeldMetadata digest f id parts None = parts.metadata ≡ None
IsHeldMetadata digest f id parts (Some metadata) = IsOwnMetadata digest f id parts metadata

-- this metadata is the only one that is known, and the identifier commits it; if a shard holds one,
-- it is this
pub record IsOnly (digest : List ℕ → List ℕ) (id : BlobId) (parts : Parts)
    (payloads : List (List ℕ)) (metadata : BlobMetadata) : Type 0 where
  pub known : Knows digest id parts payloads metadata
  pub only : (other : BlobMetadata) → Knows digest id parts payloads other → other ≡ metadata
  pub commits : Commits digest id.0 metadata
  pub same : (bytes : List ℕ) → parts.metadata ≡ Some bytes → bytes ≡ metadata_text metadata

-- none is known, or one, or two that differ, which give two texts with one digest
abbrev pub AreKnown : (List ℕ → List ℕ) → BlobId → Parts → List (List ℕ) → Known → Type 0
AreKnown digest id parts payloads Absent =
    (metadata : BlobMetadata) → Knows digest id parts payloads metadata → ⊥
AreKnown digest id parts payloads (One metadata) = IsOnly digest id parts payloads metadata
AreKnown digest id parts payloads (Two collision) =
    KnowsTwo digest id parts payloads × IsCollision digest collision.left collision.right

-- a recovery from these payloads has this word as its result, and the shard keeps what it found
abbrev pub RecoversInWorld : (List ℕ → List ℕ) → World → Side → ℕ → Axis → BlobId → List (List ℕ)
    → RecoverWord → World → Type 0
RecoversInWorld digest old side shard axis id payloads word new =
    (contents : Contents)
    × RecoversTo digest old.log.f id shard axis
    (contents_of (side_of side old) shard) payloads word contents
    × (new ≡ keeps old side shard contents)
