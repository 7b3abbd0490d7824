-- Slivers and openings that are not a matrix's own, though they are committed under the same roots.
use Rattle.std.specs.Prelude.{◌≡◌, ◌≢◌, ℕ, ◌*◌, ◌<◌, List, All, Some, length, slice_get}
use Rattle.std.specs.Prelude.{slice_index}
use Rattle.wal_kernel.specs.Region.{region}
use Rattle.wal_shape.specs.declared.axis.Axis.TheVariants.{Primary}
use Rattle.wal_shape.specs.declared.opening.Opening.{Opening}
use Rattle.wal_shape.specs.EncodingProof.{EncodingProof}
use Rattle.wal_shape.specs.Shape.{BlobShape, column_count, shard_count}
use Rattle.wal_matrix.specs.Matrix.{line_of, primary_of}
use Rattle.wal_commit.specs.Held.{HoldsOpening}
use Rattle.wal_commit.specs.Identifier.{metadata_over}
use Rattle.wal_extract.specs.Slivers.{HaveOneRoot}

-- joined primary slivers of shards, of which the one at this place is not that of the matrix
pub record HaveFalseSliver (f size : ℕ) (extended indices joined : List ℕ) : Type 0 where
  pub below : All (λ i. i < shard_count f) indices
  pub long : length joined ≡ length indices * (column_count f * size)
  pub place : ℕ
  pub within : place < length indices
  pub apart : region (column_count f * size) joined place
      ≢ primary_of f size extended (slice_index indices place)

-- each of them has the same root as the matrix's sliver of its index
pub record SliversMeet (digest : List ℕ → List ℕ) (f size : ℕ)
    (extended indices joined : List ℕ) : Type 0 where
  pub each : (k : ℕ) → k < length indices
      → HaveOneRoot digest f Primary (region (column_count f * size) joined k)
      (primary_of f size extended (slice_index indices k))

-- the symbol of the matrix for an opening of this target
abbrev pub own_symbol : ℕ → ℕ → List ℕ → EncodingProof → Opening → List ℕ
own_symbol f size extended proof shown =
    region size (line_of proof.axis f size extended proof.index) shown.cross

-- openings of a target, of which the one at this place does not have the matrix's symbol
pub record HaveFalseOpening (f size : ℕ) (extended : List ℕ) (proof : EncodingProof) : Type 0 where
  pub long : length extended ≡ shard_count f * shard_count f * size
  pub index : proof.index < shard_count f
  pub crosses : (k : ℕ) (shown : Opening) → slice_get proof.openings k ≡ Some shown
      → shown.cross < shard_count f
  pub place : ℕ
  pub opening : Opening
  pub there : slice_get proof.openings place ≡ Some opening
  pub apart : opening.symbol ≢ own_symbol f size extended proof opening

-- the metadata over the matrix commits each of the openings
pub record OpeningsMeet (digest : List ℕ → List ℕ) (shape : BlobShape)
    (extended : List ℕ) (proof : EncodingProof) : Type 0 where
  pub each : (k : ℕ) (shown : Opening) → slice_get proof.openings k ≡ Some shown
      → HoldsOpening digest (metadata_over digest shape extended) proof.axis proof.index shown
