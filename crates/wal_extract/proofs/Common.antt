-- What the proofs of this crate cite from elsewhere, and of its own definitions, handed on from one place. Declares nothing.
pub use Rattle.std.proofs.Common.{◌≡◌, ◌≢◌, ℕ, ◌*◌, ◌<◌, List, length, slice_get, slice_index, Some, sym, ap, ◌∙◌, arith, ⊎_elim, ◌%◌, ◌≤◌, ◌^◌, ◌-◌, replicate, ap₂, inl, inr, rules, below_more}
pub use Rattle.std.proofs.Math.Nat.{mul-le-mul_right, mul-mod_left}
pub use Rattle.std.proofs.lemmas.List.{get_or_default, length-take-le}
pub use Rattle.std.proofs.lemmas.Option.{get_or_from_slice_get, slice_get_within}
pub use Rattle.std.proofs.lemmas.Result.{IfOk-weaker}
pub use Rattle.wal_commit.proofs.Crossings.{some, within, part_within}
pub use Rattle.wal_commit.specs.Held.{HoldsOpening, HoldsSliver}
pub use Rattle.wal_commit.specs.Identifier.{IsIdentifierOf, identifier_of}
unfoldable pub use Rattle.wal_commit.specs.Identifier.{metadata_over}
pub use Rattle.wal_evidence.proofs.Verdicts.{shape_of, true_verdict}
pub use Rattle.wal_evidence.specs.Evidence.{AreHeld, CommitsMatrix, IsJudgedBy, sliver_bytes, IsEvidence}
pub use Rattle.wal_evidence.specs.declared.evidence.Basis.TheVariants.{Slivers, Proof}
pub use Rattle.wal_evidence.specs.declared.evidence.Verdict.TheVariants.{Bytes}
pub use Rattle.wal_kernel.specs.Region.{region}
pub use Rattle.wal_matrix.specs.Matrix.{IsCodedMatrix, primary_of, IsExtended, row_of, shards, symbol_bytes}
unfoldable pub use Rattle.wal_matrix.specs.Matrix.{padded}
pub use Rattle.wal_shape.proofs.ShapeLaws.{matrix_bytes-bound, symbol_size-least}
pub use Rattle.wal_shape.specs.Metadata.{BlobMetadata, IsMetadata, roots_of}
pub use Rattle.wal_shape.specs.Opening.{opening_shown}
pub use Rattle.wal_shape.specs.ProofRef.{proof_shown}
pub use Rattle.wal_shape.specs.Shape.{symbol_size, most_bytes, shard_count, BlobShape, IsShape, column_count, row_count}
pub use Rattle.wal_shape.specs.declared.axis.Axis.TheVariants.{Primary}
pub use Rattle.wal_shape.specs.declared.opening.Opening.{Opening}
pub use Rattle.wal_tree.specs.Tree.{root_over}
pub use Rattle.wal_extract.specs.inside.FalseParts.{HaveFalseOpening, HaveFalseSliver, OpeningsMeet, SliversMeet, own_symbol}
