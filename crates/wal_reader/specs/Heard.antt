-- What a reader keeps of the payloads that it has heard so far.
use Rattle.std.specs.Prelude.{◌≡◌, ⊤, ℕ, ◌<◌, List, [], ◌∷◌, length, Ok, Option, Some, None}
use Rattle.wal_shape.specs.declared.axis.Axis.TheVariants.{Primary}
use Rattle.wal_shape.specs.Shape.{row_count}
use Rattle.wal_shape.specs.Metadata.{BlobMetadata}
use Rattle.wal_shape.specs.EncodingProof.{EncodingProof}
use Rattle.wal_tree.specs.Collision.{IsCollision}
use Rattle.wal_commit.specs.Identifier.{AreDigestedFor}
use Rattle.wal_frame.specs.Frame.{Sliver}
use Rattle.wal_frame.specs.Reading.{read_of}
use Rattle.wal_reader.specs.declared.known.Known.{Known}
use Rattle.wal_reader.specs.declared.kept.Kept.{Kept}
use Rattle.wal_reader.specs.declared.kept.Kept.TheVariants.{Waiting, One, Two}
use Rattle.wal_reader.specs.Carried.{CarriesProof, IsFirstBadProof, NoBadProof}
use Rattle.wal_reader.specs.Outcome.{AreFirstTwo, Collects, HasMetadata, IsFirstMetadata}
use Rattle.wal_reader.specs.Outcome.{IsMetadataIn}

-- the payload carries neither a primary sliver nor a proof of this identifier
abbrev pub CarriesNoPart : List ℕ → List ℕ → Type 0
CarriesNoPart id payload =
    ((index : ℕ) (bytes : List ℕ) → read_of payload ≡ Ok (Sliver id Primary index bytes) → ⊥)
    × ((proof : EncodingProof) → CarriesProof id payload proof → ⊥)

-- the parts are the payloads without those that carry neither
pub data Sifts (id : List ℕ) : List (List ℕ) → List (List ℕ) → Type 0 where
  none : Sifts id [] []
  kept : (payload : List ℕ) (parts payloads : List (List ℕ)) → (CarriesNoPart id payload → ⊥)
      → Sifts id parts payloads
      → Sifts id (payload ∷ parts) (payload ∷ payloads)
  dropped : (payload : List ℕ) (parts payloads : List (List ℕ)) → CarriesNoPart id payload
      → Sifts id parts payloads
      → Sifts id parts (payload ∷ payloads)

-- the first bad proof, if there is one
abbrev pub IsProofFound : (List ℕ → List ℕ) → List ℕ → BlobMetadata → List (List ℕ)
    → Option EncodingProof → Type 0
IsProofFound digest id metadata payloads (Some proof) =
    IsFirstBadProof digest id metadata payloads proof
IsProofFound digest id metadata payloads None = NoBadProof digest id metadata payloads

-- as many slivers are held as are needed
abbrev pub IsEnough : Known → Type 0
IsEnough known = length known.collected.indices.items ≡ row_count known.metadata.f

-- what is kept for metadata: the first held slivers, and as long as they are too few, the first bad
-- proof
pub record HasParts (digest : List ℕ → List ℕ) (id : List ℕ)
    (known : Known) (payloads : List (List ℕ)) : Type 0 where
  pub f : known.work.f ≡ known.metadata.f
  pub slivers : Collects digest id known.metadata payloads
      known.collected.indices.items known.collected.joined.items
  pub proof : length known.collected.indices.items < row_count known.metadata.f
      → IsProofFound digest id known.metadata payloads known.proof

-- it is kept for the one metadata that the payloads carry, which is their first
abbrev pub HasKnown : (List ℕ → List ℕ) → List ℕ → Known → List (List ℕ) → Type 0
HasKnown digest id known payloads =
    IsMetadataIn digest id payloads known.metadata × HasParts digest id known payloads
    × IsFirstMetadata digest id payloads known.metadata

-- what is kept of payloads: the parts, as long as there is no metadata; what is held for the
-- metadata, if there is one; or two texts of one digest, if two differ: those of the first one, and
-- of the first that differs from it
abbrev pub HasKept : (List ℕ → List ℕ) → List ℕ → Kept → List (List ℕ) → Type 0
HasKept digest id (Waiting parts) payloads =
    ((metadata : BlobMetadata) → HasMetadata digest id payloads metadata → ⊥)
    × Sifts id parts.items payloads
HasKept digest id (One known) payloads = HasKnown digest id known payloads
HasKept digest id (Two clash) payloads =
    (one : BlobMetadata) × (other : BlobMetadata) × AreFirstTwo digest id payloads one other
    × IsCollision digest clash.left clash.right
    × AreDigestedFor digest one other clash.left clash.right

-- enough slivers are held, or two metadata differ
abbrev pub IsSettledKept : Kept → Type 0
IsSettledKept (Waiting parts) = ⊥
IsSettledKept (One known) = IsEnough known
IsSettledKept (Two clash) = ⊤

-- the identifier, and what is kept
pub record HeardState : Type 0 where
  pub id : List ℕ
  pub kept : Kept

-- what was heard of these payloads for this identifier
abbrev pub HasHeard : (List ℕ → List ℕ) → List ℕ → HeardState → List (List ℕ) → Type 0
HasHeard digest id heard payloads = (heard.id ≡ id) × HasKept digest heard.id heard.kept payloads

-- nothing but two metadata that differ can change the answer
abbrev pub IsSettledState : HeardState → Type 0
IsSettledState heard = IsSettledKept heard.kept
