-- What a shard holds under an identifier: the four parts of wal_store's `Parts`, as bytes.
use Rattle.std.specs.Prelude.{◌≡◌, ℕ, ◌<◌, Bool, ◌&&◌, ◌||◌, is_some, List, [], ◌∷◌, ◌++◌, Option}
use Rattle.std.specs.Prelude.{Some, None}
use Rattle.wal_shape.specs.declared.axis.Axis.{Axis}
use Rattle.wal_shape.specs.declared.axis.Axis.TheVariants as axes
use Rattle.wal_shape.specs.declared.opening.Opening.{Opening}
use Rattle.wal_shape.specs.Shape.{shard_count, crossing}
use Rattle.wal_shape.specs.Metadata.{BlobMetadata, IsMetadata, held_index}
use Rattle.wal_shape.specs.MetadataReading.{spelled_metadata}
use Rattle.wal_shape.specs.Spelling.{metadata_text, proof_text}
use Rattle.wal_shape.specs.EncodingProof.{EncodingProof, IsProof}
use Rattle.wal_shape.specs.Part.{sliver_part}
use Rattle.wal_store.specs.Parts.{Parts, part_of}
use Rattle.wal_commit.specs.Identifier.{Commits}
use Rattle.wal_commit.specs.Held.{HoldsSliver, IsOpeningOf}
use Rattle.wal_evidence.specs.BadProof.{IsBadProof}
use Rattle.wal_frame.specs.Frame as frame
use Rattle.wal_frame.specs.Frame.{frame_text, metadata_frame, sliver_frame}

-- the parts hold this metadata
pub record HoldsMetadata (parts : Parts) (metadata : BlobMetadata) : Type 0 where
  pub fit : IsMetadata metadata
  pub spelled : parts.metadata ≡ Some (metadata_text metadata)

-- whether metadata and both slivers are held
abbrev pub settled_by_slivers : Parts → Bool
settled_by_slivers parts =
    is_some parts.metadata && (is_some parts.primary && is_some parts.secondary)

-- whether a proof is held
abbrev pub has_proof : Parts → Bool
has_proof parts = is_some parts.metadata && is_some parts.proof

-- whether the identifier is settled: by slivers, or by a proof
abbrev pub settled : Parts → Bool
settled parts = settled_by_slivers parts || has_proof parts

-- what a shard may hold under an identifier: metadata of f that the identifier commits; and only
-- beside metadata, slivers of the shard's own indices that it commits, and a proof that is bad for
-- it
pub record IsSound (digest : List ℕ → List ℕ) (f : ℕ)
    (id : List ℕ) (shard : ℕ) (parts : Parts) : Type 0 where
  pub metadata : (bytes : List ℕ) → parts.metadata ≡ Some bytes
      → (described : BlobMetadata) × HoldsMetadata parts described × Commits digest id described
      × (described.f ≡ f)
  pub alone : parts.metadata ≡ None
      → (parts.primary ≡ None) × (parts.secondary ≡ None) × (parts.proof ≡ None)
  pub slivers : (axis : Axis) (described : BlobMetadata) (bytes : List ℕ)
      → HoldsMetadata parts described
      → part_of parts (sliver_part axis) ≡ Some bytes
      → HoldsSliver digest described axis (held_index described.format described.f axis shard) bytes
  pub proof : (described : BlobMetadata) (bytes : List ℕ) → HoldsMetadata parts described
      → parts.proof ≡ Some bytes
      → (held_proof : EncodingProof) × IsProof held_proof × (bytes ≡ proof_text held_proof)
      × IsBadProof digest described held_proof

-- one payload if a part is held, and none if it is not
abbrev pub payload_if : Option (List ℕ) → (List ℕ → List ℕ) → List (List ℕ)
payload_if None payload = []
payload_if (Some bytes) payload = payload bytes ∷ []

-- the frame of held metadata
abbrev pub metadata_reply : Parts → List (List ℕ)
metadata_reply parts = payload_if parts.metadata (λ bytes. metadata_frame (spelled_metadata bytes))

-- the frame of a held primary sliver
abbrev pub primary_reply : List ℕ → ℕ → Parts → List (List ℕ)
primary_reply id shard parts =
    payload_if parts.primary (λ bytes. sliver_frame id axes.Primary shard bytes)

-- the frame of a held proof
abbrev pub proof_reply : List ℕ → Parts → List (List ℕ)
proof_reply id parts = payload_if parts.proof (λ bytes. 0x13 ∷ (id ++ bytes))

-- a shard's answer to a read: the frames of the metadata, the primary sliver and the proof, those
-- that are held, in this order
abbrev pub read_reply_of : List ℕ → ℕ → Parts → List (List ℕ)
read_reply_of id shard parts =
    metadata_reply parts ++ (primary_reply id shard parts ++ proof_reply id parts)

-- the frame of the opening of the target that the shard's crossing sliver gives, if that is held
-- and the index is a shard's
pub data OpeningReply (digest : List ℕ → List ℕ) (id : List ℕ)
    (shard : ℕ) (parts : Parts) (axis : Axis) (index : ℕ) : List (List ℕ)
    → Type 0 where
  given : (held : BlobMetadata) (sliver : List ℕ) (opening : Opening) → HoldsMetadata parts held
      → part_of parts (sliver_part (crossing axis)) ≡ Some sliver
      → index < shard_count held.f
      → opening.cross ≡ held_index held.format held.f (crossing axis) shard
      → IsOpeningOf digest held axis index sliver opening
      → OpeningReply digest id shard parts axis index
      (frame_text (frame.Opening id axis index opening) ∷ [])
  not_held : part_of parts (sliver_part (crossing axis)) ≡ None
      → OpeningReply digest id shard parts axis index []
  no_shard : (held : BlobMetadata) → HoldsMetadata parts held → (index < shard_count held.f → ⊥)
      → OpeningReply digest id shard parts axis index []

-- a shard's answer to a request for symbols of a sliver: the frame of the held metadata, that
-- opening, and the held proof
abbrev pub SymbolReplies : (List ℕ → List ℕ) → List ℕ → ℕ → Parts → Axis → ℕ → List (List ℕ)
    → Type 0
SymbolReplies digest id shard parts axis index payloads =
    (opening : List (List ℕ)) × OpeningReply digest id shard parts axis index opening
    × (payloads ≡ metadata_reply parts ++ (opening ++ proof_reply id parts))
