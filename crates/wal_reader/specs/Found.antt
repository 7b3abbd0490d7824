-- The metadata of an identifier that payloads carry.
use Rattle.std.specs.Prelude.{◌≢◌, ⊤, ℕ, List}
use Rattle.wal_shape.specs.Metadata.{BlobMetadata}
use Rattle.wal_shape.specs.MetaRef.{metadata_shown}
use Rattle.wal_reader.specs.declared.finding.FoundMetadata.{FoundMetadata}
use Rattle.wal_reader.specs.declared.finding.FoundMetadata.TheVariants.{Absent, One, Two}
use Rattle.wal_reader.specs.Outcome.{AreFirstTwo, HasMetadata, IsMetadataIn}

-- none, one, or two that differ
abbrev pub Finds : (List ℕ → List ℕ) → List ℕ → List (List ℕ) → FoundMetadata → Type 0
Finds digest id payloads Absent =
    (metadata : BlobMetadata) → HasMetadata digest id payloads metadata → ⊥
Finds digest id payloads (One metadata) = IsMetadataIn digest id payloads (metadata_shown metadata)
Finds digest id payloads (Two one other) =
    HasMetadata digest id payloads (metadata_shown one)
    × HasMetadata digest id payloads (metadata_shown other)
    × (metadata_shown one ≢ metadata_shown other)

-- of two that differ, the first one, and the first that differs from it
abbrev pub AreFirst : (List ℕ → List ℕ) → List ℕ → List (List ℕ) → FoundMetadata → Type 0
AreFirst digest id payloads Absent = ⊤
AreFirst digest id payloads (One metadata) = ⊤
AreFirst digest id payloads (Two one other) =
    AreFirstTwo digest id payloads (metadata_shown one) (metadata_shown other)
