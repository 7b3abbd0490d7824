-- Payloads that are settled: none that follow change the answer, but for another metadata.
use Rattle.std.specs.Prelude.{◌≢◌, ◌⊎◌, ℕ, List}
use Rattle.wal_shape.specs.Metadata.{BlobMetadata}
use Rattle.wal_reader.specs.Outcome.{HasEnough, HasMetadata, IsMetadataIn}

-- two metadata of the identifier differ
abbrev pub HasTwo : (List ℕ → List ℕ) → List ℕ → List (List ℕ) → Type 0
HasTwo digest id payloads =
    (one : BlobMetadata) × (other : BlobMetadata) × HasMetadata digest id payloads one
    × HasMetadata digest id payloads other × (one ≢ other)

-- two metadata differ, or there is one with enough slivers
abbrev pub IsSettled : (List ℕ → List ℕ) → List ℕ → List (List ℕ) → Type 0
IsSettled digest id payloads =
    HasTwo digest id payloads
    ⊎ ((metadata : BlobMetadata) × IsMetadataIn digest id payloads metadata
    × HasEnough digest id metadata payloads)
