-- The envelopes in which a blob's metadata and slivers are written.
use Rattle.std.specs.Prelude.{ℕ, List, ◌++◌}
use Rattle.std.specs.List.{flat_map, range_with_len}
use Rattle.wal_shape.specs.declared.axis.Axis.TheVariants.{Primary, Secondary}
use Rattle.wal_shape.specs.Shape.{BlobShape, shard_count, symbol_size}
use Rattle.wal_shape.specs.Metadata.{BlobMetadata, held_index}
use Rattle.wal_frame.specs.Frame.{envelope, metadata_frame, sliver_frame}
use Rattle.wal_matrix.specs.Matrix.{primary_of, secondary_of}
use Rattle.wal_commit.specs.Identifier.{metadata_over, identifier_of}

-- the envelopes of one shard: its primary and its secondary sliver
unfoldable pub shard_text : List ℕ → BlobShape → List ℕ → ℕ → List ℕ
shard_text id shape extended shard =
    let size = symbol_size shape.f shape.length in
    let row = held_index shape.format shape.f Primary shard in
    let column = held_index shape.format shape.f Secondary shard in
    envelope shard (sliver_frame id Primary row (primary_of shape.f size extended row))
    ++ envelope shard
    (sliver_frame id Secondary column (secondary_of shape.f size extended column))

-- the envelope of the metadata from sender 0, and then those of each shard in turn
abbrev pub all_envelopes : List ℕ → BlobMetadata → BlobShape → List ℕ → List ℕ
all_envelopes id metadata shape extended =
    envelope 0 (metadata_frame metadata)
    ++ flat_map (shard_text id shape extended) (range_with_len 0 (shard_count shape.f))

-- all envelopes of a blob of this shape, by its extended matrix
abbrev pub encoded_text : (List ℕ → List ℕ) → BlobShape → List ℕ → List ℕ
encoded_text digest shape extended =
    let metadata = metadata_over digest shape extended in
    all_envelopes (identifier_of digest metadata) metadata shape extended
