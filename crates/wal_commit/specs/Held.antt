-- The slivers and the openings that metadata commits.
use Rattle.std.specs.Prelude.{◌≡◌, ℕ, ◌*◌, ◌<◌, List, length, Some, slice_get}
use Rattle.wal_shape.specs.declared.axis.Axis.{Axis}
use Rattle.wal_kernel.specs.Region.{region}
use Rattle.wal_shape.specs.declared.opening.Opening.{Opening}
use Rattle.wal_shape.specs.Shape.{shard_count, sliver_symbols, symbol_size, crossing}
use Rattle.wal_shape.specs.Metadata.{BlobMetadata, roots_of}
use Rattle.wal_tree.specs.Tree.{root_over}
use Rattle.wal_tree.specs.Path.{IsPathTo, path_over}
use Rattle.wal_matrix.specs.Word.{IsWordOf}

-- this is the sliver of the axis and index that the metadata commits: it has the size of one, and
-- the root over its codeword is the metadata's root of this axis and index
pub record HoldsSliver (digest : List ℕ → List ℕ) (metadata : BlobMetadata)
    (axis : Axis) (index : ℕ) (sliver : List ℕ) : Type 0 where
  pub within : index < shard_count metadata.f
  pub size : length sliver ≡ sliver_symbols axis metadata.f * symbol_size metadata.f metadata.length
  pub word : List ℕ
  pub is_word : IsWordOf axis metadata.f (symbol_size metadata.f metadata.length) sliver word
  pub root : slice_get (roots_of axis metadata) index
      ≡ Some (root_over digest (symbol_size metadata.f metadata.length) word)

-- this is an opening of the sliver of the axis and index: a symbol of the crossing sliver,
-- committed under that sliver's root
pub record HoldsOpening (digest : List ℕ → List ℕ) (metadata : BlobMetadata)
    (axis : Axis) (index : ℕ) (opening : Opening) : Type 0 where
  pub within : index < shard_count metadata.f
  pub cross : opening.cross < shard_count metadata.f
  pub size : length opening.symbol ≡ symbol_size metadata.f metadata.length
  pub root : List ℕ
  pub committed : slice_get (roots_of (crossing axis) metadata) opening.cross ≡ Some root
  pub leads : IsPathTo digest root (shard_count metadata.f) index opening.symbol opening.path

-- this is the opening of the sliver of the axis and index that the crossing sliver gives: the
-- symbol at the place `index` of its codeword, and the siblings of that place
pub record IsOpeningOf (digest : List ℕ → List ℕ) (metadata : BlobMetadata)
    (axis : Axis) (index : ℕ) (sliver : List ℕ) (opening : Opening) : Type 0 where
  pub word : List ℕ
  pub is_word : IsWordOf (crossing axis) metadata.f
      (symbol_size metadata.f metadata.length) sliver word
  pub symbol : opening.symbol ≡ region (symbol_size metadata.f metadata.length) word index
  pub path : opening.path ≡ path_over digest (symbol_size metadata.f metadata.length) word index
