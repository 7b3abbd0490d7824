-- The one spelling of each value, most significant byte first.
use Rattle.std.specs.Prelude.{ℕ, ◌+◌, ◌*◌, ◌/◌, List, [], ◌∷◌, ◌++◌, length}
use Rattle.std.specs.Int.{Width, w8, w16, w32, w64, to_be_bytes}
use Rattle.std.specs.List.{flat_map}
use Rattle.wal_shape.specs.declared.axis.Axis.{Axis}
use Rattle.wal_shape.specs.declared.axis.Axis.TheVariants.{Primary, Secondary}
use Rattle.wal_shape.specs.declared.shape.Format.{Format}
use Rattle.wal_shape.specs.declared.shape.Format.TheVariants.{One, Two}
use Rattle.wal_shape.specs.declared.opening.Opening.{Opening}
use Rattle.wal_shape.specs.Shape.{shard_count}
use Rattle.wal_shape.specs.Metadata.{BlobMetadata, held_order}
use Rattle.wal_shape.specs.EncodingProof.{EncodingProof}

-- a number in the bytes of its width
abbrev pub number_text : Width → ℕ → List ℕ
number_text width n = to_be_bytes width n

-- the version that format two begins with
abbrev pub format_text : Format → List ℕ
format_text One = []
format_text Two = 2 ∷ []

-- a primary and a secondary root of each shard in turn
unfoldable pub pairs_text : List (List ℕ) → List (List ℕ) → List ℕ
pairs_text [] secondary = []
pairs_text (one ∷ primary) [] = []
pairs_text (one ∷ primary) (other ∷ secondary) = one ++ other ++ pairs_text primary secondary

-- the format, f in two bytes, the length in eight, and the roots of the two slivers that each shard
-- holds
unfoldable pub metadata_text : BlobMetadata → List ℕ
metadata_text metadata =
    format_text metadata.format ++ number_text w16 metadata.f ++ number_text w64 metadata.length
    ++ pairs_text metadata.primary (held_order metadata.format metadata.secondary)

-- the number of bytes of the spelling of metadata
abbrev pub text_size : Format → ℕ → ℕ
text_size One f = 10 + 64 * shard_count f
text_size Two f = 11 + 64 * shard_count f

-- an opening body: the cross, the symbol behind its size, and the path behind the number of its
-- digests
unfoldable pub body_text : Opening → List ℕ
body_text opening =
    number_text w16 opening.cross ++ number_text w32 (length opening.symbol) ++ opening.symbol
    ++ number_text w8 (length opening.path / 32) ++ opening.path

-- the number of an axis
abbrev pub axis_number : Axis → ℕ
axis_number Primary = 0
axis_number Secondary = 1

-- the axis, the index and the number of openings, and each opening's body
unfoldable pub proof_text : EncodingProof → List ℕ
proof_text proof =
    number_text w8 (axis_number proof.axis) ++ number_text w16 proof.index
    ++ number_text w16 (length proof.openings) ++ flat_map body_text proof.openings
