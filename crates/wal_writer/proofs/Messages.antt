-- An honest writer's frames have spellings.
use Rattle.wal_writer.proofs.Common.{◌≡◌, ℕ, suc, ◌*◌, ◌<◌, ◌≤◌, List, length, sym, ap, subst, ◌∙◌, arith, Primary, Secondary, BlobShape, IsShape, shard_count, column_count, sliver_symbols, symbol_size, most_bytes, BlobMetadata, IsMetadata, held_index, Commits, IsMetadataOf, metadata_over}
use Rattle.std.specs.List.{AllByRecursion}
use Rattle.std.proofs.Math.Nat.{mul-le-mul_left, mul-le-mul_right}
use Rattle.wal_shape.specs.declared.metadata.BlobId.{BlobId}
use Rattle.wal_shape.specs.declared.axis.Axis.{Axis}
use Rattle.wal_shape.specs.declared.shape.Format.{Format}
use Rattle.wal_shape.specs.declared.shape.Format.TheVariants.{One, Two}
use Rattle.wal_shape.specs.Spelling.{metadata_text, text_size}
use Rattle.wal_shape.proofs.MetadataLaws.{held_index-within, length-metadata_text}
use Rattle.wal_shape.proofs.ShapeLaws.{matrix_bytes-bound}
use Rattle.wal_matrix.specs.Matrix.{IsExtended, sliver_of}
use Rattle.wal_matrix.proofs.Words.{sliver_long}
use Rattle.wal_commit.proofs.Clashes.{identifier_is}
use Rattle.wal_commit.proofs.Commitments.{honest_metadata}
use Rattle.wal_frame.specs.Frame.{Frame, IsFrame, metadata_frame, sliver_frame}
use Rattle.wal_frame.specs.Stream.{IsPayload}
use Rattle.wal_frame.proofs.FrameLaws.{length-sliver_frame}
use Rattle.wal_writer.specs.Message.{IsMessageOf, Written, messages_of, sliver_for}

-- a sliver has no more bytes than the longest blob
pub sliver_short : (axis : Axis) (f long bytes : ℕ) → IsShape f long → bytes ≡ sliver_symbols axis f * symbol_size f long → bytes ≤ most_bytes
sliver_short axis f long bytes fit is = by (sliver_symbols axis f) (few axis) is
  where
    few : (a : Axis) → sliver_symbols a f ≤ column_count f
    few Primary = omega arith
    few Secondary = omega arith

    by : (count : ℕ) → count ≤ column_count f → bytes ≡ count * symbol_size f long → bytes ≤ most_bytes
    by count less e =
        let n = shard_count f in
        let s = symbol_size f long in
        let square : n * 4 ≤ n * n = mul-le-mul_left n (omega (arith, fit.0)) in
        let fifth : 5 * count ≤ n * n = omega (arith, square, less, fit.0) in
        let within : 5 * count * s ≤ n * n * s = mul-le-mul_right s fifth in
        let parts : 5 * count * s ≡ 5 * (count * s) = omega arith in
        omega (arith, within, parts, e, matrix_bytes-bound f long fit)

-- the numbers of a blob's metadata
pub numbers_of : (digest : List ℕ → List ℕ) (format : Format) (f : ℕ) (blob : List ℕ) (m : BlobMetadata) → IsMetadataOf digest format f blob m → (m.f ≡ f) × (m.length ≡ length blob)
unfolding metadata_over
numbers_of digest format f blob m is = (ap (λ (x : BlobMetadata). x.f) is.2, ap (λ (x : BlobMetadata). x.length) is.2)

-- the shape of the metadata over a matrix
pub shape_over : (digest : List ℕ → List ℕ) (shape : BlobShape) (e : List ℕ) (m : BlobMetadata) → m ≡ metadata_over digest shape e
    → shape ≡ record { format = m.format; f = m.f; length = m.length }
unfolding metadata_over
shape_over digest shape e m is = ap (λ (x : BlobMetadata). record { format = x.format; f = x.f; length = x.length }) (sym is)

-- the sliver of an axis, of a shape that has a metadata, has no more bytes than the longest blob
pub own_sliver_short : (axis : Axis) (shape : BlobShape) (m : BlobMetadata) (bytes : ℕ) → shape ≡ record { format = m.format; f = m.f; length = m.length } → IsMetadata m
    → bytes ≡ sliver_symbols axis shape.f * symbol_size shape.f shape.length → bytes ≤ most_bytes
own_sliver_short axis shape m bytes same fit long =
    sliver_short axis shape.f shape.length bytes (subst (λ (s : BlobShape). IsShape s.f s.length) (sym same) fit.shape) long

-- what a writer made of a blob is its metadata
pub written_metadata : (digest : List ℕ → List ℕ) (f : ℕ) (format : Format) (blob : List ℕ) (given shape : BlobShape) (e : List ℕ) (m : BlobMetadata)
    → given ≡ record { format = format; f = f; length = length blob } → shape ≡ given → IsShape f (length blob) → IsExtended given.f blob e
    → m ≡ metadata_over digest shape e → IsMetadataOf digest format f blob m
written_metadata digest f format blob given shape e m is same fit extended over =
    let matrix : IsExtended f blob e = subst (λ (s : BlobShape). IsExtended s.f blob e) is extended in
    (e, matrix, over ∙ ap (λ (s : BlobShape). metadata_over digest s e) (same ∙ is), fit)

-- and what it sends
pub written_message : (digest : List ℕ → List ℕ) (f : ℕ) (format : Format) (blob : List ℕ) (given shape : BlobShape) (w : Written)
    → given ≡ record { format = format; f = f; length = length blob } → shape ≡ given → IsShape f (length blob) → IsExtended given.f blob w.cells
    → w.metadata ≡ metadata_over digest shape w.cells → Commits digest w.id.0 w.metadata → IsMessageOf digest f format blob w.id (messages_of w)
unfolding written_metadata
written_message digest f format blob given shape w is same fit extended over commits = record {
  metadata = w.metadata;
  is_metadata = written_metadata digest f format blob given shape w.cells w.metadata is same fit extended over;
  identifier = commits.identifier;
  frames = λ i. messages_of w;
}

-- a metadata's frame can be sent
text_most : (format : Format) (f : ℕ) → f ≤ 333 → text_size format f ≤ 64011
text_most One f few = omega arith
text_most Two f few = omega arith

pub metadata_payload : (text : List ℕ) (m : BlobMetadata) → IsMetadata m → text ≡ metadata_frame m → IsPayload text
metadata_payload text m fit e =
    let size : length text ≡ suc (length (metadata_text m)) = ap length e in
    omega (arith, size, length-metadata_text m fit, text_most m.format m.f fit.shape.1)

-- and so can a sliver's
pub sliver_payload : (text id : List ℕ) (axis : Axis) (index : ℕ) (bytes : List ℕ) → length id ≡ 32 → length bytes ≤ most_bytes → text ≡ sliver_frame id axis index bytes → IsPayload text
sliver_payload text id axis index bytes size short e =
    let long : length text ≡ length (sliver_frame id axis index bytes) = ap length e in
    omega (arith, long, length-sliver_frame id axis index bytes size, short)

module _ (digest : List ℕ → List ℕ) (size : (text : List ℕ) → length (digest text) ≡ 32) (f : ℕ) (format : Format) (blob : List ℕ) (id : BlobId) (message : ℕ → List Frame)
    (is : IsMessageOf digest f format blob id message) where
  -- the metadata
  pub message_metadata : IsMetadata is.metadata
  message_metadata = honest_metadata digest size format f blob is.metadata is.is_metadata

  -- the sliver of an axis for a shard
  sliver_fits : (axis : Axis) (shard : ℕ) → shard < shard_count f → IsFrame (sliver_for is.metadata id.0 is.is_metadata.0 axis shard)
  sliver_fits axis shard within =
      let m = is.metadata in
      let n = numbers_of digest format f blob m is.is_metadata in
      let e = is.is_metadata.0 in
      let index = held_index m.format m.f axis shard in
      let faults = n.0 in
      let few = message_metadata.shape.1 in
      let here : shard < shard_count m.f = omega (arith, within, faults) in
      let below = held_index-within m.format m.f axis shard here in
      let most : index ≤ 999 = omega (arith, below, few) in
      let whole : length e ≡ shard_count m.f * shard_count m.f * symbol_size m.f m.length =
      subst (λ (l : ℕ). length e ≡ shard_count m.f * shard_count m.f * symbol_size m.f l) (sym n.1)
      (subst (λ (k : ℕ). length e ≡ shard_count k * shard_count k * symbol_size k (length blob)) (sym faults) is.is_metadata.1.coded.size) in
      let long = sliver_long axis m.f (symbol_size m.f m.length) e index whole below in
      record {
        id_size = ap length (is.identifier ∙ identifier_is digest m) ∙ size _;
        index_most = most;
        size_most = sliver_short axis m.f m.length (length (sliver_of axis m.f (symbol_size m.f m.length) e index)) message_metadata.shape long;
      }

  -- all frames for a shard
  pub message_fits : (shard : ℕ) → shard < shard_count f → AllByRecursion IsFrame (message shard)
  message_fits shard within =
      subst (λ (send : ℕ → List Frame). AllByRecursion IsFrame (send shard)) (sym is.frames)
      (message_metadata, (sliver_fits Primary shard within, (sliver_fits Secondary shard within, tt)))
