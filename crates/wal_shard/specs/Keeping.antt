-- What a shard keeps of a recovery: the metadata, and the sliver or the proof. A part that is held
-- stays.
use Rattle.std.specs.Prelude.{◌≡◌, ◌⊎◌, ℕ, cond, is_some, List}
use Rattle.wal_shape.specs.declared.metadata.BlobId.{BlobId}
use Rattle.wal_shape.specs.declared.axis.Axis.{Axis}
use Rattle.wal_shape.specs.Metadata.{BlobMetadata}
use Rattle.wal_shape.specs.Spelling.{metadata_text, proof_text}
use Rattle.wal_shape.specs.EncodingProof.{EncodingProof}
use Rattle.wal_shape.specs.declared.part.Part.{Part}
use Rattle.wal_shape.specs.declared.part.Part.TheVariants as parts
use Rattle.wal_store.specs.Contents.{Contents, part_at, with_bytes}
use Rattle.wal_shape.specs.Part.{sliver_part}

-- the contents with this part, if it is not held
abbrev pub kept : Contents → BlobId → Part → List ℕ → Contents
kept contents id part bytes =
    cond (is_some (part_at contents id part)) contents (with_bytes contents id part bytes)

-- the metadata and the sliver are kept, each if none is held
abbrev pub kept_sliver : Contents → BlobId → BlobMetadata → Axis → List ℕ → Contents
kept_sliver contents id metadata axis bytes =
    kept (kept contents id parts.Metadata (metadata_text metadata)) id (sliver_part axis) bytes

-- the metadata and the proof are kept, each if none is held
abbrev pub kept_proof : Contents → BlobId → BlobMetadata → EncodingProof → Contents
kept_proof contents id metadata proof =
    kept (kept contents id parts.Metadata (metadata_text metadata))
    id parts.Proof (proof_text proof)

-- what is held after memory ran out: what was held before, or that with the metadata
abbrev pub IsKeptInPart : Contents → BlobId → BlobMetadata → Contents → Type 0
IsKeptInPart old id metadata new =
    (new ≡ old) ⊎ (new ≡ kept old id parts.Metadata (metadata_text metadata))
