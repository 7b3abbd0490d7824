-- What a world holds and what was answered are bytes: so is all that results from a schedule's
-- events.
use Rattle.std.specs.Prelude.{◌≡◌, ℕ, List, Some}
use Rattle.std.specs.FinMap as map
use Rattle.wal_shape.specs.declared.metadata.BlobId.{BlobId}
use Rattle.wal_shape.specs.declared.axis.Side.{Side}
use Rattle.wal_shape.specs.declared.part.Part.{Part}
use Rattle.wal_shape.specs.Spelling.{metadata_text, proof_text}
use Rattle.wal_evidence.specs.declared.evidence.Basis.{Basis}
use Rattle.wal_evidence.specs.declared.evidence.Basis.TheVariants.{Slivers, Proof}
use Rattle.wal_store.specs.Parts.{Parts, part_of}
use Rattle.wal_protocol.specs.declared.first.First.{First}
use Rattle.wal_protocol.specs.declared.first.First.TheVariants.{Judged, Written}
use Rattle.wal_protocol.specs.State.{World, side_of, held}
use Rattle.wal_protocol.specs.Total.{AreBytes}

-- each part that is held is bytes
abbrev pub IsOfBytes : Parts → Type 0
IsOfBytes parts = (part : Part) (text : List ℕ) → part_of parts part ≡ Some text → AreBytes text

-- a proof is spelled in bytes
abbrev pub BasisOfBytes : Basis → Type 0
BasisOfBytes (Slivers indices joined) = Unit {0}
BasisOfBytes (Proof proof) = AreBytes (proof_text proof)

-- the metadata and the proof of a read's evidence are spelled in bytes
abbrev pub FirstOfBytes : First → Type 0
FirstOfBytes (Judged evidence verdict) =
    AreBytes (metadata_text evidence.metadata) × BasisOfBytes evidence.basis
FirstOfBytes (Written bytes) = Unit {0}

-- all that is held is bytes, and so are the metadata and the proofs that first completed answers
-- rest on
pub record WorldOfBytes (world : World) : Type 0 where
  pub parts : (side : Side) (shard : ℕ) (id : BlobId)
      → IsOfBytes (held (side_of side world) shard id)
  pub answers : (id : BlobId) (answer : First) → map.get world.answers id ≡ Some answer
      → FirstOfBytes answer
