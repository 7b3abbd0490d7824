-- Answers on a member that contradict the bundle, or each other.
use Rattle.std.specs.Prelude.{◌≡◌, ◌≢◌, ◌⊎◌, ℕ, ◌<◌, List, Some, length, slice_get}
use Rattle.wal_shape.specs.declared.axis.Axis.TheVariants.{Secondary}
use Rattle.wal_shape.specs.Shape.{BlobShape, symbol_size}
use Rattle.wal_shape.specs.Metadata.{BlobMetadata}
use Rattle.wal_matrix.specs.Matrix.{IsExtended}
use Rattle.wal_commit.specs.Identifier.{AreDigestedFor, IsIdentifierOf, metadata_over}
use Rattle.wal_extract.specs.Slivers.{AreDigestedForSlivers}
use Rattle.wal_reader.specs.Outcome.{IsMetadataIn}
use Rattle.wal_bundle.specs.declared.answer.MemberAnswer.{MemberAnswer}
use Rattle.wal_bundle.specs.declared.answer.MemberAnswer.TheVariants.{BadIndex, Collision, Member}
use Rattle.wal_bundle.specs.declared.answer.MemberAnswer.TheVariants.{Missing, NoMember, NoMetadata}
use Rattle.wal_bundle.specs.Columns.{IsColumn, IsOwnColumn}
use Rattle.wal_bundle.specs.Layout.{IsBundle}
use Rattle.wal_bundle.specs.Member.{IsMember}

-- what an answer says of members is true: the bytes are those of member k, and the number is theirs
abbrev pub IsTrueOf : List (List ℕ) → ℕ → MemberAnswer → Type 0
IsTrueOf members k (Member bytes) = slice_get members k ≡ Some bytes
IsTrueOf members k (NoMember count) = count ≡ length members
IsTrueOf members k BadIndex = ⊥
IsTrueOf members k (Missing j) = Unit {0}
IsTrueOf members k NoMetadata = Unit {0}
IsTrueOf members k (Collision clash) = Unit {0}

-- these bytes are the bundle of the members, and have this identifier in the format and for the
-- faults of the shape
pub record IsBundleOf (digest : List ℕ → List ℕ) (shape : BlobShape)
    (members : List (List ℕ)) (id : List ℕ) : Type 0 where
  pub bytes : List ℕ
  pub fits : length bytes ≡ shape.length
  pub bundle : IsBundle shape.f members bytes
  pub identifier : IsIdentifierOf digest shape.format shape.f bytes id

-- payloads tell something of member k that is not true of the bundle with this identifier
pub record ContradictsBundle (digest : List ℕ → List ℕ) (shape : BlobShape)
    (members : List (List ℕ)) (id : List ℕ) (k : ℕ) (payloads : List (List ℕ)) : Type 0 where
  pub bundle : IsBundleOf digest shape members id
  pub answer : MemberAnswer
  pub told : IsMember digest id k payloads answer
  pub denied : IsTrueOf members k answer → ⊥

-- two lists of payloads tell different members for one identifier and number
pub record AreContraryMembers (digest : List ℕ → List ℕ)
    (id : List ℕ) (k : ℕ) (one other : List (List ℕ)) : Type 0 where
  pub left : List ℕ
  pub right : List ℕ
  pub left_told : IsMember digest id k one (Member left)
  pub right_told : IsMember digest id k other (Member right)
  pub differ : left ≢ right

-- columns below n are the same wherever both are there
abbrev pub AgreeBelow : ℕ → (ℕ → List ℕ → Type 0) → (ℕ → List ℕ → Type 0) → Type 0
AgreeBelow n A B = (j : ℕ) → j < n → (one other : List ℕ) → A j one → B j other → one ≡ other

-- left and right are digested for the two columns of the first index at which both are there and
-- differ
abbrev pub AreDigestedForColumns : (List ℕ → List ℕ) → ℕ → (ℕ → List ℕ → Type 0)
    → (ℕ → List ℕ → Type 0) → List ℕ → List ℕ → Type 0
AreDigestedForColumns digest f A B left right =
    (j : ℕ) × (one : List ℕ) × (other : List ℕ) × AgreeBelow j A B × A j one × B j other
    × AreDigestedForSlivers digest f Secondary one other left right

-- left and right are digested for the bundle's metadata and that of the payloads, or, if these are
-- equal, for the first column that the payloads show and that is not the bundle's own
abbrev pub AreDigestedForBundle : (List ℕ → List ℕ) → BlobShape → List (List ℕ) → List ℕ
    → List (List ℕ) → List ℕ → List ℕ → Type 0
AreDigestedForBundle digest shape members id payloads left right =
    (bytes : List ℕ) × (extended : List ℕ) × (metadata : BlobMetadata)
    × IsBundle shape.f members bytes
    × IsExtended shape.f bytes extended × IsMetadataIn digest id payloads metadata
    × (AreDigestedFor digest (metadata_over digest shape extended) metadata left right
    ⊎ (metadata_over digest shape extended ≡ metadata)
    × AreDigestedForColumns digest metadata.f (IsColumn digest id metadata payloads)
    (IsOwnColumn shape.f (symbol_size shape.f shape.length) extended) left right)

-- left and right are digested for the metadata of two lists of payloads, or, if these are equal,
-- for the first columns of one index that they show and that differ
abbrev pub AreDigestedForMembers : (List ℕ → List ℕ) → List ℕ → List (List ℕ) → List (List ℕ)
    → List ℕ → List ℕ → Type 0
AreDigestedForMembers digest id first second left right =
    (metadata : BlobMetadata) × (other : BlobMetadata) × IsMetadataIn digest id first metadata
    × IsMetadataIn digest id second other
    × (AreDigestedFor digest metadata other left right
    ⊎ (metadata ≡ other)
    × AreDigestedForColumns digest metadata.f (IsColumn digest id metadata first)
    (IsColumn digest id other second) left right)

-- the answers are the same; the texts of two collisions are not compared
abbrev pub SameMemberAnswer : MemberAnswer → MemberAnswer → Type 0
SameMemberAnswer (Collision one) (Collision other) = Unit {0}
SameMemberAnswer one other = one ≡ other
