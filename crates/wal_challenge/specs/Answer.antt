-- What a shard answers to draws from its slivers.
use Rattle.std.specs.Prelude.{◌≡◌, ℕ, List, length, Some, slice_get}
use Rattle.wal_shape.specs.declared.axis.Axis.{Axis}
use Rattle.wal_shape.specs.declared.axis.Axis.TheVariants.{Primary, Secondary}
use Rattle.wal_shape.specs.declared.opening.Opening.{Opening}
use Rattle.wal_shape.specs.Shape.{crossing, shard_count, symbol_size}
use Rattle.wal_shape.specs.Metadata.{BlobMetadata, held_index}
use Rattle.wal_matrix.specs.Word.{IsWordOf}
use Rattle.wal_commit.specs.Held.{HoldsSliver, IsOpeningOf}
use Rattle.wal_commit.specs.Identifier.{identifier_of}
use Rattle.wal_challenge.specs.declared.drawing.Draw.{Draw}
use Rattle.wal_challenge.specs.Draw.{drawn}

-- one draw of a shard, by its number, for the blob that this metadata identifies
abbrev pub draw_of : (List ℕ → List ℕ) → BlobMetadata → List ℕ → ℕ → ℕ → Draw
draw_of digest metadata beacon shard draw =
    drawn digest beacon (identifier_of digest metadata) (shard_count metadata.f) shard draw

-- the index of the shard's own sliver of the drawn axis
abbrev pub drawn_index : BlobMetadata → ℕ → Draw → ℕ
drawn_index metadata shard draw = held_index metadata.format metadata.f draw.axis shard

-- the value for an axis, of one for primary and one for secondary slivers
abbrev pub among : {A : Type 0} → Axis → A → A → A
among Primary primary secondary = primary
among Secondary primary secondary = secondary

-- the two slivers are those that the metadata commits for the shard
pub record HoldsBoth (digest : List ℕ → List ℕ) (metadata : BlobMetadata)
    (shard : ℕ) (primary secondary : List ℕ) : Type 0 where
  pub primary_held : HoldsSliver digest metadata Primary
      (held_index metadata.format metadata.f Primary shard) primary
  pub secondary_held : HoldsSliver digest metadata Secondary
      (held_index metadata.format metadata.f Secondary shard) secondary

-- the opening shows what was drawn: as an opening of the crossing sliver of that index, the symbol
-- at the drawn place of the codeword of the shard's own sliver of the drawn axis, and the siblings
-- of that place
pub record ShowsDrawn (digest : List ℕ → List ℕ) (metadata : BlobMetadata) (shard : ℕ)
    (primary secondary : List ℕ) (draw : Draw) (opening : Opening) : Type 0 where
  pub cross : opening.cross ≡ drawn_index metadata shard draw
  pub opens : IsOpeningOf digest metadata (crossing draw.axis)
      draw.place (among draw.axis primary secondary) opening

-- as many openings as draws, each of which shows what its own draw asks for
pub record AreAnswers (digest : List ℕ → List ℕ) (metadata : BlobMetadata) (beacon : List ℕ)
    (shard count : ℕ) (primary secondary : List ℕ) (openings : List Opening) : Type 0 where
  pub many : length openings ≡ count
  pub each : (draw : ℕ) (opening : Opening) → slice_get openings draw ≡ Some opening
      → ShowsDrawn digest metadata shard primary secondary
      (draw_of digest metadata beacon shard draw) opening

-- the two codewords that a shard opens, and the size of their symbols
pub record OwnWords : Type 0 where
  pub size : ℕ
  pub row : List ℕ
  pub column : List ℕ

-- the words are the codewords of a primary and of a secondary sliver
pub record AreWordsOf (metadata : BlobMetadata)
    (primary secondary : List ℕ) (words : OwnWords) : Type 0 where
  pub size : words.size ≡ symbol_size metadata.f metadata.length
  pub row_word : IsWordOf Primary metadata.f
      (symbol_size metadata.f metadata.length) primary words.row
  pub column_word : IsWordOf Secondary metadata.f
      (symbol_size metadata.f metadata.length) secondary words.column
