-- All envelopes of a blob have as many bytes as its length says.
use Rattle.walrus_c.proofs.Common.{◌≡◌, ℕ, ◌+◌, ◌*◌, ◌<◌, ◌≤◌, min, List, length, length-append, refl, ap, ◌∙◌, arith, Axis, Primary, Secondary, Format, BlobShape, IsShape, column_count, row_count, shard_count, symbol_size, most_bytes, BlobMetadata, held_index, identifier_of, metadata_text, text_size, length-metadata_text, metadata_over, IsMetadata-over, envelope, metadata_frame, sliver_frame, length-sliver_frame, length-envelope, encoded_bytes}
use Rattle.wal_matrix.specs.Matrix.{primary_of, secondary_of}
use Rattle.wal_matrix.proofs.Runs.{length-pieces}
use Rattle.wal_matrix.proofs.Slivers.{primary_long, secondary_long}
use Rattle.wal_run.specs.Encoding.{encoding}
use Rattle.wal_run.specs.Envelope.{encoded_text, shard_text}
use Rattle.walrus_c.proofs.Lengths.{Tells, succeeds}

-- the envelope of a sliver
sliver_bytes : (sender : ℕ) (id : List ℕ) (axis : Axis) (index : ℕ) (sliver : List ℕ) → length id ≡ 32
    → length (envelope sender (sliver_frame id axis index sliver)) ≡ 47 + length sliver
sliver_bytes sender id axis index sliver is = omega (arith, length-envelope sender (sliver_frame id axis index sliver), length-sliver_frame id axis index sliver is)

-- a shard's own index is one of the shards
own_index : (format : Format) (f : ℕ) (axis : Axis) (shard : ℕ) → shard < shard_count f → held_index format f axis shard < shard_count f
own_index format f axis shard within = grind arith

-- the two envelopes of a shard
shard_bytes : (id : List ℕ) (shape : BlobShape) (e : List ℕ) (shard : ℕ) → length id ≡ 32
    → length e ≡ shard_count shape.f * shard_count shape.f * symbol_size shape.f shape.length → shard < shard_count shape.f
    → length (shard_text id shape e shard) ≡ 94 + (column_count shape.f * symbol_size shape.f shape.length + row_count shape.f * symbol_size shape.f shape.length)
unfolding shard_text
shard_bytes id shape e shard is long within =
    let s = symbol_size shape.f shape.length in
    let i = held_index shape.format shape.f Primary shard in
    let j = held_index shape.format shape.f Secondary shard in
    let first = primary_of shape.f s e i in
    let second = secondary_of shape.f s e j in
    omega (
      arith,
      sliver_bytes shard id Primary i first is,
      sliver_bytes shard id Secondary j second is,
      length-append (envelope shard (sliver_frame id Primary i first)) (envelope shard (sliver_frame id Secondary j second)),
      primary_long shape.f s e i long (own_index shape.format shape.f Primary shard within),
      secondary_long shape.f s e j long (own_index shape.format shape.f Secondary shard within),
    )

module _ (digest : List ℕ → List ℕ) (size_is : (text : List ℕ) → length (digest text) ≡ 32) where
  identifier_long : (m : BlobMetadata) → length (identifier_of digest m) ≡ 32
  unfolding identifier_of
  identifier_long m = size_is _

  metadata_bytes : (m : BlobMetadata) (shape : BlobShape) (e : List ℕ) → m ≡ metadata_over digest shape e → IsShape shape.f shape.length
      → length (metadata_text m) ≡ text_size shape.format shape.f
  unfolding metadata_over
  metadata_bytes m shape e is fit =
      length-metadata_text m (rw is (IsMetadata-over digest size_is shape e fit)) ∙ ap
      (λ (x : BlobMetadata). text_size x.format x.f) is

  all_bytes : (shape : BlobShape) (e : List ℕ) → IsShape shape.f shape.length
      → length e ≡ shard_count shape.f * shard_count shape.f * symbol_size shape.f shape.length
      → length (encoded_text digest shape e) ≡ encoded_bytes shape.f shape.format shape.length
  all_bytes shape e fit long =
      let m = metadata_over digest shape e in
      let id = identifier_of digest m in
      let s = symbol_size shape.f shape.length in
      let n = shard_count shape.f in
      let text : length (metadata_text m) ≡ text_size shape.format shape.f = metadata_bytes m shape e refl fit in
      let rest = length-pieces (shard_text id shape e) (94 + (column_count shape.f * s + row_count shape.f * s)) n
      (λ i h. shard_bytes id shape e i (identifier_long m) long h) in
      rw length-append (omega (arith, length-envelope 0 (metadata_frame m), text, rest))

  -- what `encode` tells has room in the bytes of its encoding
  pub encoded : (f : ℕ) (format : Format) (input : List ℕ) → (1 ≤ f) × (f ≤ 333) → length input ≤ most_bytes
      → Tells digest (encoding digest f format) input (encoded_bytes f format (min (length input) most_bytes))
  encoded f format input fit within succeeds bytes spells text is =
      let shape : BlobShape = record { format = format; f = f; length = length bytes } in
      let same : length bytes ≡ min (length input) most_bytes = omega (arith, ap length spells, within) in
      let all = all_bytes shape is.0 (fit.0, fit.1, omega (arith, ap length spells, within)) is.1.coded.size in
      omega (arith, ap length is.2, all, ap (encoded_bytes f format) same)
  encoded f format input fit within other bytes spells text none = absurd none
