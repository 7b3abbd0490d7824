-- The outcome of a read of recorded payloads.
use Rattle.std.specs.Prelude.{◌≡◌, ◌≢◌, ◌⊎◌, ⊤, ℕ, ◌<◌, All, List, ◌∷◌, ◌++◌, length, map, Ok, Some}
use Rattle.std.specs.Prelude.{None, Option, Any}
use Rattle.std.specs.List.{flat_map}
use Rattle.wal_code.specs.Codeword.{Distinct}
use Rattle.wal_shape.specs.declared.axis.Axis.TheVariants.{Primary}
use Rattle.wal_shape.specs.Shape.{row_count}
use Rattle.wal_shape.specs.Metadata.{BlobMetadata}
use Rattle.wal_shape.specs.EncodingProof.{EncodingProof}
use Rattle.wal_tree.specs.Collision.{IsCollision}
use Rattle.wal_frame.specs.Frame.{Metadata}
use Rattle.wal_frame.specs.Reading.{read_of}
use Rattle.wal_commit.specs.Identifier.{AreDigestedFor, Commits}
use Rattle.wal_evidence.specs.Evidence.{IsEvidence, IsJudgedBy, Judges}
use Rattle.wal_evidence.specs.FirstOfEach.{TakesFirst}
use Rattle.wal_evidence.specs.declared.evidence.Basis.{Basis}
use Rattle.wal_evidence.specs.declared.evidence.Basis.TheVariants.{Slivers, Proof}
use Rattle.wal_evidence.specs.declared.evidence.Evidence.{Evidence}
use Rattle.wal_evidence.specs.declared.evidence.Verdict.{Verdict}
use Rattle.wal_evidence.specs.declared.evidence.Verdict.TheVariants as told
use Rattle.wal_reader.specs.Carried.{CarriesHeldSliver, IsFirstBadProof, NoBadProof}
use Rattle.wal_reader.specs.declared.outcome.ReadAnswer.{ReadAnswer}
use Rattle.wal_reader.specs.declared.outcome.Outcome.{Outcome}
use Rattle.wal_reader.specs.declared.outcome.Outcome.TheVariants.{Bytes, Reject, Short, NoMetadata}
use Rattle.wal_reader.specs.declared.outcome.Outcome.TheVariants.{Collision}

-- the payload is the frame of metadata that id commits
abbrev pub CarriesMetadata : (List ℕ → List ℕ) → List ℕ → BlobMetadata → List ℕ → Type 0
CarriesMetadata digest id metadata payload =
    (read_of payload ≡ Ok (Metadata metadata)) × Commits digest id metadata

-- the payload is the frame of a primary sliver of this identifier that the metadata commits
abbrev pub CarriesSliver : (List ℕ → List ℕ) → List ℕ → BlobMetadata → List ℕ → ℕ → List ℕ → Type 0
CarriesSliver digest id metadata payload index bytes =
    CarriesHeldSliver digest id metadata Primary index payload bytes

-- some payload carries the metadata
abbrev pub HasMetadata : (List ℕ → List ℕ) → List ℕ → List (List ℕ) → BlobMetadata → Type 0
HasMetadata digest id payloads metadata = Any (CarriesMetadata digest id metadata) payloads

-- this is the one metadata that the payloads carry
abbrev pub IsMetadataIn : (List ℕ → List ℕ) → List ℕ → List (List ℕ) → BlobMetadata → Type 0
IsMetadataIn digest id payloads metadata =
    HasMetadata digest id payloads metadata
    × ((other : BlobMetadata) → HasMetadata digest id payloads other → other ≡ metadata)

-- a payload carries the metadata, and none before it carries any
abbrev pub IsFirstMetadata : (List ℕ → List ℕ) → List ℕ → List (List ℕ) → BlobMetadata → Type 0
IsFirstMetadata digest id payloads metadata =
    (front : List (List ℕ)) × (payload : List ℕ) × (back : List (List ℕ))
    × (payloads ≡ front ++ payload ∷ back) × CarriesMetadata digest id metadata payload
    × ((other : BlobMetadata) → HasMetadata digest id front other → ⊥)

-- a payload carries this other metadata, and none before it carries any but the first
abbrev pub IsFirstOther : (List ℕ → List ℕ) → List ℕ → List (List ℕ) → BlobMetadata → BlobMetadata
    → Type 0
IsFirstOther digest id payloads metadata other =
    (front : List (List ℕ)) × (payload : List ℕ) × (back : List (List ℕ))
    × (payloads ≡ front ++ payload ∷ back) × CarriesMetadata digest id other payload
    × (other ≢ metadata) × ((one : BlobMetadata) → HasMetadata digest id front one → one ≡ metadata)

-- one is the first metadata that payloads carry, and other the first that differs from it
abbrev pub AreFirstTwo : (List ℕ → List ℕ) → List ℕ → List (List ℕ) → BlobMetadata → BlobMetadata
    → Type 0
AreFirstTwo digest id payloads one other =
    IsFirstMetadata digest id payloads one × IsFirstOther digest id payloads one other

-- the index and the bytes of a sliver
pub record IndexedSliver : Type 0 where
  pub index : ℕ
  pub bytes : List ℕ

-- a payload gives the primary sliver that it carries
abbrev pub GivesSliver : (List ℕ → List ℕ) → List ℕ → BlobMetadata → List ℕ → IndexedSliver → Type 0
GivesSliver digest id metadata payload sliver =
    CarriesSliver digest id metadata payload sliver.index sliver.bytes

-- the indices and the bytes, one after the other, of the held primary slivers in the payloads, in
-- order, the first of each index, up to as many as the source block has rows
abbrev pub Collects : (List ℕ → List ℕ) → List ℕ → BlobMetadata → List (List ℕ) → List ℕ → List ℕ
    → Type 0
Collects digest id metadata payloads indices joined =
    (slivers : List IndexedSliver)
    × TakesFirst (GivesSliver digest id metadata)
    (λ sliver. sliver.index) (row_count metadata.f) payloads slivers
    × (indices ≡ map (λ sliver. sliver.index) slivers)
    × (joined ≡ flat_map (λ sliver. sliver.bytes) slivers)

-- the payloads lead to a verdict: they have as many held slivers as the source block has rows
abbrev pub Decides : (List ℕ → List ℕ) → List ℕ → List (List ℕ) → Verdict → Type 0
Decides digest id payloads verdict =
    (metadata : BlobMetadata) × IsMetadataIn digest id payloads metadata
    × (indices : List ℕ) × (joined : List ℕ) × Collects digest id metadata payloads indices joined
    × (length indices ≡ row_count metadata.f)
    × Judges digest metadata indices joined verdict

-- the payloads hold `have` slivers of the metadata, fewer than the source block has rows
abbrev pub HoldsFew : (List ℕ → List ℕ) → List ℕ → BlobMetadata → List (List ℕ) → ℕ → Type 0
HoldsFew digest id metadata payloads have =
    (indices : List ℕ) × (joined : List ℕ) × Collects digest id metadata payloads indices joined
    × (have ≡ length indices) × (have < row_count metadata.f)

-- the payloads carry one metadata, fewer slivers than it needs, and a proof that is bad for it
abbrev pub Refutes : (List ℕ → List ℕ) → List ℕ → List (List ℕ) → Type 0
Refutes digest id payloads =
    (metadata : BlobMetadata) × IsMetadataIn digest id payloads metadata × (have : ℕ)
    × HoldsFew digest id metadata payloads have
    × (proof : EncodingProof) × IsFirstBadProof digest id metadata payloads proof

-- the outcome of a read; one of these cases applies
abbrev pub IsOutcome : (List ℕ → List ℕ) → List ℕ → List (List ℕ) → Outcome → Type 0
-- two metadata of the identifier differ, the first one and the first that differs from it, and two
-- texts collide, one digested for each
IsOutcome digest id payloads (Collision clash) =
    (one : BlobMetadata) × (other : BlobMetadata) × AreFirstTwo digest id payloads one other
    × IsCollision digest clash.left clash.right
    × AreDigestedFor digest one other clash.left clash.right
-- there is no metadata of the identifier
IsOutcome digest id payloads NoMetadata =
    (metadata : BlobMetadata) → HasMetadata digest id payloads metadata → ⊥
-- there is one, and enough slivers are held
IsOutcome digest id payloads (Bytes bytes) = Decides digest id payloads (told.Bytes bytes)
-- the same, or fewer are held, and there is a bad proof
IsOutcome digest id payloads Reject =
    Decides digest id payloads told.Reject ⊎ Refutes digest id payloads
-- there is one, fewer slivers are held, and there is no bad proof
IsOutcome digest id payloads (Short have need) =
    (metadata : BlobMetadata) × IsMetadataIn digest id payloads metadata
    × HoldsFew digest id metadata payloads have
    × (need ≡ row_count metadata.f)
    × NoBadProof digest id metadata payloads

-- the basis is the slivers that the payloads carry, or, if fewer are held than are needed, the
-- first bad proof
abbrev pub IsDrawnFrom : (List ℕ → List ℕ) → List ℕ → List (List ℕ) → BlobMetadata → Basis → Type 0
IsDrawnFrom digest id payloads metadata (Slivers indices joined) =
    Collects digest id metadata payloads indices joined
IsDrawnFrom digest id payloads metadata (Proof proof) =
    (have : ℕ) × HoldsFew digest id metadata payloads have
    × IsFirstBadProof digest id metadata payloads proof

-- evidence for the identifier that is drawn from the payloads and leads to this verdict
abbrev pub IsEvidenceFor : (List ℕ → List ℕ) → List ℕ → List (List ℕ) → Verdict → Option Evidence
    → Type 0
IsEvidenceFor digest id payloads verdict evidence =
    (shown : Evidence) × (evidence ≡ Some shown) × IsEvidence digest id shown
    × IsJudgedBy digest shown.metadata shown.basis verdict
    × IsMetadataIn digest id payloads shown.metadata
    × IsDrawnFrom digest id payloads shown.metadata shown.basis

-- the evidence for an outcome, which is there exactly if the outcome is a verdict
abbrev pub HasEvidence : (List ℕ → List ℕ) → List ℕ → List (List ℕ) → Outcome → Option Evidence
    → Type 0
HasEvidence digest id payloads (Bytes bytes) evidence =
    IsEvidenceFor digest id payloads (told.Bytes bytes) evidence
HasEvidence digest id payloads Reject evidence =
    IsEvidenceFor digest id payloads told.Reject evidence
HasEvidence digest id payloads (Short have need) evidence = evidence ≡ None
HasEvidence digest id payloads NoMetadata evidence = evidence ≡ None
HasEvidence digest id payloads (Collision clash) evidence = evidence ≡ None

-- some payload carries a held sliver of this index
abbrev pub HasSliver : (List ℕ → List ℕ) → List ℕ → BlobMetadata → List (List ℕ) → ℕ → Type 0
HasSliver digest id metadata payloads index =
    Any (λ payload. (bytes : List ℕ) × CarriesSliver digest id metadata payload index bytes)
    payloads

-- the payloads carry held slivers of as many indices as the source block has rows
abbrev pub HasEnough : (List ℕ → List ℕ) → List ℕ → BlobMetadata → List (List ℕ) → Type 0
HasEnough digest id metadata payloads =
    (indices : List ℕ) × Distinct indices × (length indices ≡ row_count metadata.f)
    × All (HasSliver digest id metadata payloads) indices

-- the outcome is a verdict
abbrev pub IsVerdict : Outcome → Type 0
IsVerdict (Bytes bytes) = ⊤
IsVerdict Reject = ⊤
IsVerdict (Short have need) = ⊥
IsVerdict NoMetadata = ⊥
IsVerdict (Collision clash) = ⊥

-- the outcomes are the same; the texts of two collisions are not compared
abbrev pub SameOutcome : Outcome → Outcome → Type 0
SameOutcome (Collision one) (Collision other) = Unit {0}
SameOutcome one other = one ≡ other

-- no other outcome is that of the payloads
abbrev pub IsOnlyOutcome : (List ℕ → List ℕ) → List ℕ → List (List ℕ) → Outcome → Type 0
IsOnlyOutcome digest id payloads outcome =
    (other : Outcome) → IsOutcome digest id payloads other → SameOutcome other outcome

-- the outcome, which is the only one, and its evidence
abbrev pub IsAnswer : (List ℕ → List ℕ) → List ℕ → List (List ℕ) → ReadAnswer → Type 0
IsAnswer digest id payloads answer =
    IsOutcome digest id payloads answer.outcome × IsOnlyOutcome digest id payloads answer.outcome
    × HasEvidence digest id payloads answer.outcome answer.evidence
