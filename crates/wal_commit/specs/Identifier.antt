-- The commitments to a blob: its metadata, with a root for each row and column of the extended
-- matrix, and its identifier.
use Rattle.std.specs.Prelude.{◌≡◌, ◌≢◌, ◌⊎◌, ℕ, List, ◌∷◌, ◌++◌, length, map}
use Rattle.std.specs.List.{range_with_len}
use Rattle.std.specs.Int.{w16, w64}
use Rattle.wal_shape.specs.declared.shape.Format.{Format}
use Rattle.wal_shape.specs.declared.shape.Format.TheVariants.{One, Two}
use Rattle.wal_shape.specs.Shape.{BlobShape, IsShape, shard_count, symbol_size}
use Rattle.wal_shape.specs.Metadata.{BlobMetadata, IsMetadata, held_order}
use Rattle.wal_shape.specs.Spelling.{number_text, format_text, pairs_text}
use Rattle.wal_tree.specs.Path.{MeetInTrees}
use Rattle.wal_tree.specs.Tree.{root_over}
use Rattle.wal_matrix.specs.Matrix.{IsExtended, row_of, column_of}

-- the metadata of a blob of this shape with this extended matrix: its numbers, the root over the
-- symbols of each row, and the root over those of each column
unfoldable pub metadata_over : (List ℕ → List ℕ) → BlobShape → List ℕ → BlobMetadata
metadata_over digest shape extended =
    let n = shard_count shape.f in
    let size = symbol_size shape.f shape.length in
    record {
      format = shape.format;
      f = shape.f;
      length = shape.length;
      primary = map (λ i. root_over digest size (row_of n size extended i)) (range_with_len 0 n);
      secondary =
          map (λ j. root_over digest size (column_of n size extended j)) (range_with_len 0 n);
    }

-- this is the metadata of these bytes, in this format and for f faults
abbrev pub IsMetadataOf : (List ℕ → List ℕ) → Format → ℕ → List ℕ → BlobMetadata → Type 0
IsMetadataOf digest format f bytes metadata =
    (extended : List ℕ) × IsExtended f bytes extended
    × (metadata
    ≡ metadata_over digest (record { format = format; f = f; length = length bytes }) extended)
    × IsShape f (length bytes)

-- for each shard the roots of the two slivers that it holds
abbrev pub held_pairs : BlobMetadata → List ℕ
held_pairs metadata = pairs_text metadata.primary (held_order metadata.format metadata.secondary)

-- the root over these pairs, a leaf for each shard
abbrev pub pair_root : (List ℕ → List ℕ) → BlobMetadata → List ℕ
pair_root digest metadata = root_over digest 64 (held_pairs metadata)

-- the byte that an identifier's text begins with
abbrev pub identifier_tag : Format → ℕ
identifier_tag One = 2
identifier_tag Two = 3

-- what stands before the pairs in the spelling of metadata: the format, f and the length
abbrev pub head_text : Format → ℕ → ℕ → List ℕ
head_text format f length = format_text format ++ number_text w16 f ++ number_text w64 length

-- the text of the identifier of metadata: what stands before the pairs, and the root over the pairs
-- in their place
abbrev pub identifier_text : (List ℕ → List ℕ) → BlobMetadata → List ℕ
identifier_text digest metadata =
    identifier_tag metadata.format
    ∷ (head_text metadata.format metadata.f metadata.length ++ pair_root digest metadata)

-- the identifier of metadata
unfoldable pub identifier_of : (List ℕ → List ℕ) → BlobMetadata → List ℕ
identifier_of digest metadata = digest (identifier_text digest metadata)

-- left and right are the texts of the two identifiers, if these texts differ, and else those that
-- meet in the trees over the pairs
abbrev pub AreDigestedFor : (List ℕ → List ℕ) → BlobMetadata → BlobMetadata → List ℕ → List ℕ
    → Type 0
AreDigestedFor digest one other left right =
    ((identifier_text digest one ≢ identifier_text digest other)
    × (left ≡ identifier_text digest one)
    × (right ≡ identifier_text digest other))
    ⊎ ((identifier_text digest one ≡ identifier_text digest other)
    × MeetInTrees digest 64 (held_pairs one) (held_pairs other) left right)

-- the identifier commits to the metadata
pub record Commits (digest : List ℕ → List ℕ) (id : List ℕ) (metadata : BlobMetadata) : Type 0 where
  pub fit : IsMetadata metadata
  pub identifier : id ≡ identifier_of digest metadata

-- id is the identifier of these bytes, in this format and for f faults
abbrev pub IsIdentifierOf : (List ℕ → List ℕ) → Format → ℕ → List ℕ → List ℕ → Type 0
IsIdentifierOf digest format f bytes id =
    (metadata : BlobMetadata) × IsMetadataOf digest format f bytes metadata
    × Commits digest id metadata
