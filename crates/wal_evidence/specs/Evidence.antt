-- What a reader holds for some metadata, and the verdict on it.
use Rattle.std.specs.Prelude.{◌≡◌, ◌≢◌, ℕ, ◌*◌, ◌<◌, List, length, take, Some, slice_get}
use Rattle.std.specs.Prelude.{slice_index}
use Rattle.wal_code.specs.Codeword.{Distinct}
use Rattle.wal_kernel.specs.Region.{region}
use Rattle.wal_shape.specs.declared.axis.Axis.TheVariants.{Primary}
use Rattle.wal_shape.specs.declared.opening.Opening.{Opening}
use Rattle.wal_shape.specs.Shape.{row_count, column_count, symbol_size}
use Rattle.wal_shape.specs.Metadata.{BlobMetadata}
use Rattle.wal_matrix.specs.Matrix.{IsExtended, line_of, primary_of}
use Rattle.wal_matrix.specs.Through.{IsMatrixThrough, source_of}
use Rattle.wal_commit.specs.Held.{HoldsOpening, HoldsSliver}
use Rattle.wal_commit.specs.Identifier.{Commits, IsIdentifierOf, identifier_of, metadata_over}
use Rattle.wal_evidence.specs.BadProof.{IsBadProof}
use Rattle.wal_evidence.specs.declared.evidence.Basis.{Basis}
use Rattle.wal_evidence.specs.declared.evidence.Basis.TheVariants.{Slivers, Proof}
use Rattle.wal_evidence.specs.declared.evidence.Evidence.{Evidence}
use Rattle.wal_evidence.specs.declared.evidence.Verdict.{Verdict}
use Rattle.wal_evidence.specs.declared.evidence.Verdict.TheVariants.{Bytes, Reject}

-- the number of bytes of a primary sliver
abbrev pub sliver_bytes : BlobMetadata → ℕ
sliver_bytes metadata = column_count metadata.f * symbol_size metadata.f metadata.length

-- as many primary slivers as the source block has rows, one after the other, of distinct indices,
-- and the metadata commits each
pub record AreHeld (digest : List ℕ → List ℕ)
    (metadata : BlobMetadata) (indices joined : List ℕ) : Type 0 where
  pub count : length indices ≡ row_count metadata.f
  pub distinct : Distinct indices
  pub size : length joined ≡ row_count metadata.f * sliver_bytes metadata
  pub held : (k : ℕ) → k < length indices
      → HoldsSliver digest metadata Primary (slice_index indices k)
      (region (sliver_bytes metadata) joined k)

-- a blob is given if its identifier is that of the metadata, and else it is rejected
abbrev pub IsVerdictOn : (List ℕ → List ℕ) → BlobMetadata → List ℕ → Verdict → Type 0
IsVerdictOn digest metadata blob (Bytes bytes) =
    (bytes ≡ blob)
    × IsIdentifierOf digest metadata.format metadata.f blob (identifier_of digest metadata)
IsVerdictOn digest metadata blob Reject =
    IsIdentifierOf digest metadata.format metadata.f blob (identifier_of digest metadata) → ⊥

-- the verdict on the blob of the matrix through these slivers: the first bytes of its source block
abbrev pub Judges : (List ℕ → List ℕ) → BlobMetadata → List ℕ → List ℕ → Verdict → Type 0
Judges digest metadata indices joined verdict =
    (extended : List ℕ)
    × IsMatrixThrough metadata.f (symbol_size metadata.f metadata.length) indices joined extended
    × IsVerdictOn digest metadata
    (take metadata.length (source_of metadata.f (symbol_size metadata.f metadata.length) extended))
    verdict

-- what the evidence rests on holds for this metadata
abbrev pub IsHeldBy : (List ℕ → List ℕ) → BlobMetadata → Basis → Type 0
IsHeldBy digest metadata (Slivers indices joined) = AreHeld digest metadata indices joined
IsHeldBy digest metadata (Proof proof) = IsBadProof digest metadata proof

-- the verdict that the basis leads to
abbrev pub IsJudgedBy : (List ℕ → List ℕ) → BlobMetadata → Basis → Verdict → Type 0
IsJudgedBy digest metadata (Slivers indices joined) verdict =
    Judges digest metadata indices joined verdict
IsJudgedBy digest metadata (Proof proof) verdict = verdict ≡ Reject

-- evidence for an identifier: metadata that it commits, and a basis that holds for that metadata
pub record IsEvidence (digest : List ℕ → List ℕ) (id : List ℕ) (evidence : Evidence) : Type 0 where
  pub committed : Commits digest id evidence.metadata
  pub held : IsHeldBy digest evidence.metadata evidence.basis

-- the extended matrix of this blob, and its metadata
abbrev pub CommitsMatrix : (List ℕ → List ℕ) → BlobMetadata → List ℕ → List ℕ → Type 0
CommitsMatrix digest metadata blob extended =
    IsExtended metadata.f blob extended
    × (metadata ≡ metadata_over digest
    (record { format = metadata.format; f = metadata.f; length = length blob }) extended)

-- one of the slivers is not the matrix's, though the metadata commits both under one root; or one
-- of the openings does not have the matrix's symbol, though it holds
abbrev pub HasFalseSliver : (List ℕ → List ℕ) → BlobMetadata → List ℕ → Basis → Type 0
HasFalseSliver digest metadata extended (Slivers indices joined) =
    (k : ℕ) × (k < length indices)
    × (region (sliver_bytes metadata) joined k
    ≢ primary_of metadata.f (symbol_size metadata.f metadata.length)
    extended (slice_index indices k))
    × HoldsSliver digest metadata Primary (slice_index indices k)
    (region (sliver_bytes metadata) joined k)
    × HoldsSliver digest metadata Primary (slice_index indices k)
    (primary_of metadata.f (symbol_size metadata.f metadata.length)
    extended (slice_index indices k))
HasFalseSliver digest metadata extended (Proof proof) =
    (k : ℕ) × (opening : Opening) × (slice_get proof.openings k ≡ Some opening)
    × (opening.symbol ≢ region (symbol_size metadata.f metadata.length)
    (line_of proof.axis metadata.f (symbol_size metadata.f metadata.length) extended proof.index)
    opening.cross)
    × HoldsOpening digest metadata proof.axis proof.index opening
