-- Which part of a holding a frame carries, and the bytes in which it is stored.
use Rattle.std.specs.Prelude.{ℕ, List, [], Option, Some, None}
use Rattle.wal_shape.specs.declared.part.Part.{Part}
use Rattle.wal_shape.specs.declared.part.Part.TheVariants as parts
use Rattle.wal_shape.specs.Part.{sliver_part}
use Rattle.wal_shape.specs.Spelling.{metadata_text, proof_text}
use Rattle.wal_frame.specs.Frame.{Frame, Metadata, Sliver, Proof}

-- the part that a frame carries, if it carries one
abbrev pub stored_part : Frame → Option Part
stored_part (Metadata metadata) = Some parts.Metadata
stored_part (Sliver id axis index bytes) = Some (sliver_part axis)
stored_part (Proof id proof) = Some parts.Proof
stored_part _ = None

-- the bytes in which it is stored
abbrev pub stored_bytes : Frame → List ℕ
stored_bytes (Metadata metadata) = metadata_text metadata
stored_bytes (Sliver id axis index bytes) = bytes
stored_bytes (Proof id proof) = proof_text proof
stored_bytes _ = []
