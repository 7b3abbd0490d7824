-- Blobs of one identifier, by their extended matrices.
use Rattle.wal_extract.proofs.Common.{◌≡◌, ◌≢◌, ℕ, ◌-◌, ◌*◌, ◌<◌, ◌≤◌, List, length, slice_get, replicate, sym, ap, ap₂, ◌∙◌, arith, mul-le-mul_right, Primary, BlobShape, column_count, row_count, shard_count, symbol_size, BlobMetadata, IsMetadata, roots_of, root_over, IsExtended, padded, row_of, IsIdentifierOf, identifier_of, metadata_over, shape_of}
use Rattle.wal_shape.specs.Spelling.{metadata_text}
use Rattle.wal_shape.proofs.MetadataLaws.{metadata_text-injective}
use Rattle.wal_tree.proofs.Collisions.{append_front}
use Rattle.wal_matrix.specs.Through.{source_of}
use Rattle.wal_matrix.proofs.Decoded.{source_of_extended}
use Rattle.wal_matrix.proofs.Slivers.{row_is}
use Rattle.wal_matrix.proofs.WordTables.{same_by_regions}
use Rattle.wal_commit.proofs.HonestOpenings.{root_of_line}

-- the identifier of a blob is that of the metadata over its only matrix
pub identifier_over : (digest : List ℕ → List ℕ) (shape : BlobShape) (bytes id e : List ℕ) → length bytes ≡ shape.length →
    ((other : List ℕ) → IsExtended shape.f bytes other → other ≡ e) → IsIdentifierOf digest shape.format shape.f bytes id →
    id ≡ identifier_of digest (metadata_over digest shape e)
identifier_over digest shape bytes id e fits only is =
    is.2.identifier ∙ ap (identifier_of digest) (rw (fits, only is.1.0 is.1.1) at is.1.2)

-- metadata that are spelled alike are the same
pub same_metadata : (a b : BlobMetadata) (x y : List ℕ) → IsMetadata a → IsMetadata b → x ≡ metadata_text a → y ≡ metadata_text b → x ≡ y → a ≡ b
same_metadata a b x y is_a is_b x_is y_is same = metadata_text-injective a b is_a is_b (sym x_is ∙ same ∙ y_is)

-- the shape of a metadata over a matrix
pub over_shape : (digest : List ℕ → List ℕ) (x : BlobShape) (e : List ℕ) (m : BlobMetadata)
    → metadata_over digest x e ≡ m → x ≡ shape_of m
unfolding metadata_over
over_shape digest x e m same = ap shape_of same

pub same_shape : (digest : List ℕ → List ℕ) (x y : BlobShape) (d e : List ℕ) → metadata_over digest x d ≡ metadata_over digest y e → x ≡ y
unfolding metadata_over
same_shape digest x y d e same = ap shape_of same

-- blobs of one shape and one matrix are the same
same_bytes : (f : ℕ) (a b d e : List ℕ) → length a ≡ length b → IsExtended f a d → IsExtended f b e → d ≡ e → a ≡ b
unfolding padded
same_bytes f a b d e long is_a is_b same =
    append_front a b (replicate (row_count f * column_count f * symbol_size f (length a) - length a) 0)
    (replicate (row_count f * column_count f * symbol_size f (length b) - length b) 0) long
    (sym (source_of_extended f a d is_a) ∙ ap₂ (λ n x. source_of f (symbol_size f n) x) long same ∙ source_of_extended f b e is_b)

-- so that different blobs of one shape have different matrices
pub matrices_apart : (x y : BlobShape) (a b d e : List ℕ) → x ≡ y → length a ≡ x.length → length b ≡ y.length → IsExtended x.f a d → IsExtended y.f b e → a ≢ b → d ≢ e
matrices_apart x y a b d e shape fits_a fits_b is_a is_b differ same =
    differ (same_bytes x.f a b d e (rw (fits_a, fits_b, shape)) is_a (rw (← shape) at is_b) same)

-- rows of one metadata have one root
pub rows_one_root : (digest : List ℕ → List ℕ) (x y : BlobShape) (d e : List ℕ) (i : ℕ) → metadata_over digest x d ≡ metadata_over digest y e → x ≡ y → i < shard_count x.f →
    root_over digest (symbol_size x.f x.length) (row_of (shard_count x.f) (symbol_size x.f x.length) d i)
    ≡ root_over digest (symbol_size x.f x.length) (row_of (shard_count y.f) (symbol_size y.f y.length) e i)
rows_one_root digest x y d e i same shape below =
    let other = rw shape at below in
    let roots = ap (λ (m : BlobMetadata). slice_get (roots_of Primary m) i) same in
    let both =
    rw shape at (sym (root_of_line digest Primary x d i below) ∙ roots ∙ root_of_line digest Primary y e i other) in
    rw shape (cc)

-- matrices of one shape whose rows are the same are the same
pub rows_all : (x y : BlobShape) (d e : List ℕ) → x ≡ y → length d ≡ shard_count x.f * shard_count x.f * symbol_size x.f x.length →
    length e ≡ shard_count y.f * shard_count y.f * symbol_size y.f y.length → 0 < symbol_size x.f x.length →
    ((i : ℕ) → i < shard_count x.f → row_of (shard_count x.f) (symbol_size x.f x.length) d i ≡ row_of (shard_count y.f) (symbol_size y.f y.length) e i) → d ≡ e
rows_all x y d e shape long_d long_e some each =
    let n = shard_count x.f in
    let s = symbol_size x.f x.length in
    let long = rw (← shape) at long_e in
    let room : 1 * s ≤ n * s = mul-le-mul_right s (omega arith) in
    same_by_regions n (n * s) d e (omega (arith, room)) (long_d ∙ omega arith) (long ∙ omega arith)
    (λ i below. rw (← row_is n s d i, ← row_is n s e i) ((rw (← shape) at each) i below))
