-- What the proofs of this crate cite from elsewhere, and of its own definitions, handed on from one place. Declares nothing.
pub use Rattle.std.proofs.Common.{◌≡◌, ℕ, suc, ◌*◌, ◌<◌, ◌≤◌, List, length, sym, ap, subst, ◌∙◌, arith}
pub use Rattle.wal_commit.specs.Identifier.{Commits, IsMetadataOf}
unfoldable pub use Rattle.wal_commit.specs.Identifier.{metadata_over}
pub use Rattle.wal_shape.specs.Metadata.{BlobMetadata, IsMetadata, held_index}
pub use Rattle.wal_shape.specs.Shape.{BlobShape, IsShape, shard_count, column_count, sliver_symbols, symbol_size, most_bytes}
pub use Rattle.wal_shape.specs.declared.axis.Axis.TheVariants.{Primary, Secondary}
