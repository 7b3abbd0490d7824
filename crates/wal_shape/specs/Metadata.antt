-- The metadata of a blob: its shape, and the roots of the slivers.
use Rattle.std.specs.Prelude.{◌≡◌, ℕ, ◌-◌, List, length, reverse}
use Rattle.std.specs.List.{AllByRecursion}
use Rattle.wal_shape.specs.declared.axis.Axis.{Axis}
use Rattle.wal_shape.specs.declared.axis.Axis.TheVariants.{Primary, Secondary}
use Rattle.wal_shape.specs.declared.shape.Format.{Format}
use Rattle.wal_shape.specs.declared.shape.Format.TheVariants.{One, Two}
use Rattle.wal_shape.specs.Shape.{IsShape, shard_count}

-- the format, the number of faults, the blob's length in bytes, and the root of each sliver of
-- either axis
pub record BlobMetadata : Type 0 where
  pub format : Format
  pub f : ℕ
  pub length : ℕ
  pub primary : List (List ℕ)
  pub secondary : List (List ℕ)

-- n roots of 32 bytes
pub record AreRoots (n : ℕ) (roots : List (List ℕ)) : Type 0 where
  pub count : length roots ≡ n
  pub size : AllByRecursion (λ root. length root ≡ 32) roots

-- a fit shape with one root for each shard and axis
pub record IsMetadata (metadata : BlobMetadata) : Type 0 where
  pub shape : IsShape metadata.f metadata.length
  pub primary : AreRoots (shard_count metadata.f) metadata.primary
  pub secondary : AreRoots (shard_count metadata.f) metadata.secondary

-- the roots of an axis
abbrev pub roots_of : Axis → BlobMetadata → List (List ℕ)
roots_of Primary metadata = metadata.primary
roots_of Secondary metadata = metadata.secondary

-- the index of the sliver of an axis that a shard holds: the shard's own number, but in format two
-- the secondary slivers are held in the opposite order
abbrev pub held_index : Format → ℕ → Axis → ℕ → ℕ
held_index One f axis shard = shard
held_index Two f Primary shard = shard
held_index Two f Secondary shard = shard_count f - 1 - shard

-- the secondary roots in the order of the shards that hold their slivers
abbrev pub held_order : Format → List (List ℕ) → List (List ℕ)
held_order One roots = roots
held_order Two roots = reverse roots
