-- Blobs with one identifier, and what the two texts are digested for that they lead to.
use Rattle.std.specs.Prelude.{◌≡◌, ◌⊎◌, ℕ, ◌<◌, List}
use Rattle.wal_shape.specs.Shape.{BlobShape, shard_count, symbol_size}
use Rattle.wal_tree.specs.Path.{MeetInTrees}
use Rattle.wal_matrix.specs.Matrix.{IsExtended, row_of}
use Rattle.wal_commit.specs.Identifier.{AreDigestedFor, IsIdentifierOf, metadata_over}

-- these bytes have one identifier, each in the format and for the faults of its shape
pub record HaveOneIdentifier (digest : List ℕ → List ℕ) (one_shape : BlobShape)
    (one : List ℕ) (other_shape : BlobShape) (other : List ℕ) : Type 0 where
  pub id : List ℕ
  pub left : IsIdentifierOf digest one_shape.format one_shape.f one id
  pub right : IsIdentifierOf digest other_shape.format other_shape.f other id

-- left and right are the texts that meet in the trees over the first row in which two matrices of
-- this shape differ
abbrev pub AreDigestedForRows : (List ℕ → List ℕ) → BlobShape → List ℕ → List ℕ → List ℕ → List ℕ
    → Type 0
AreDigestedForRows digest shape extended other_extended left right =
    let n = shard_count shape.f in
    let size = symbol_size shape.f shape.length in
    (index : ℕ) × (index < n)
    × ((i : ℕ) → i < index → row_of n size extended i ≡ row_of n size other_extended i)
    × MeetInTrees digest size (row_of n size extended index)
    (row_of n size other_extended index) left right

-- left and right are digested for the metadata of the two blobs, or, if these are equal, for the
-- first row in which their matrices differ
abbrev pub AreDigestedForBlobs : (List ℕ → List ℕ) → BlobShape → List ℕ → BlobShape → List ℕ
    → List ℕ → List ℕ → Type 0
AreDigestedForBlobs digest one_shape one other_shape other left right =
    (extended : List ℕ) × (other_extended : List ℕ) × IsExtended one_shape.f one extended
    × IsExtended other_shape.f other other_extended
    × (AreDigestedFor digest (metadata_over digest one_shape extended)
    (metadata_over digest other_shape other_extended) left right
    ⊎ (metadata_over digest one_shape extended ≡ metadata_over digest other_shape other_extended)
    × AreDigestedForRows digest one_shape extended other_extended left right)
