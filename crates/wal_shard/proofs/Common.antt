-- What the proofs of this crate cite from elsewhere, and of its own definitions, handed on from one place. Declares nothing.
pub use Rattle.std.proofs.Common.{◌≡◌, ℕ, Bool, true, false, cond, Option, Some, None, List, Result, Ok, Err, refl, sym, ap, ◌∙◌, subst, unwrap_or, arith, inl, inr, ◌≢◌, ◌+◌, IsSome, [], take, drop, ◌*◌, ◌<◌, ◌≤◌, length, ◌↔◌, IsTrue, is_some, ◌-◌, ◌/◌, ◌∷◌, ◌++◌, append_assoc, rules, nat_eq, slice_get}
pub use Rattle.std.proofs.Math.Nat.{mul-le-mul_left, mul-le-mul_right}
pub use Rattle.std.proofs.lemmas.Bool.{false≢true, cond_both, cases_Bool}
pub use Rattle.std.specs.FinMap.{get-empty, get-insert, get-remove, get-retain_keys}
pub use Rattle.std.specs.Ordering.{eq_by_cmp, is_eq}
pub use Rattle.std.specs.Prelude.{OnOk, OnErr}
pub use Rattle.wal_commit.specs.Held.{HoldsSliver}
pub use Rattle.wal_commit.specs.Identifier.{Commits}
pub use Rattle.wal_evidence.specs.BadProof.{IsBadProof}
pub use Rattle.wal_frame.specs.Buffer.{Buffer, appended}
pub use Rattle.wal_frame.specs.Frame.{Metadata, Sliver, Proof, Frame, envelope, metadata_kind, metadata_frame, Opening, frame_text}
pub use Rattle.wal_ledger.specs.Ledger.{Log, is_live, MustHold, live_ids}
pub use Rattle.wal_matrix.proofs.ToolsLaws.{symbol_size-longest}
pub use Rattle.wal_shape.proofs.MetadataLaws.{metadata_text-injective, length-metadata_text, text_size-least, text_size-most, spelled_metadata-text, spelled_metadata-format}
pub use Rattle.wal_shape.proofs.ShapeLaws.{matrix_bytes-bound, symbol_size-least}
pub use Rattle.wal_shape.specs.EncodingProof.{EncodingProof, IsProof}
pub use Rattle.wal_shape.specs.Identifiers.{id_cmp}
pub use Rattle.wal_shape.specs.MetaRef.{metadata_shown}
pub use Rattle.wal_shape.specs.Metadata.{BlobMetadata, held_index, IsMetadata}
pub use Rattle.wal_shape.specs.MetadataReading.{spelled_format, spelled_metadata}
pub use Rattle.wal_shape.specs.Part.{sliver_part}
unfoldable pub use Rattle.wal_shape.specs.ProofRef.{proof_shown}
pub use Rattle.wal_shape.specs.Shape.{shard_count, column_count, sliver_symbols, symbol_size, most_bytes, row_count, crossing}
pub use Rattle.wal_shape.specs.Spelling.{metadata_text, proof_text, text_size}
pub use Rattle.wal_shape.specs.declared.axis.Axis.{Axis}
pub use Rattle.wal_shape.specs.declared.axis.Axis.TheVariants.{Primary, Secondary}
pub use Rattle.wal_shape.specs.declared.metadata.BlobId.{BlobId}
pub use Rattle.wal_shape.specs.declared.part.Part.{Part}
pub use Rattle.wal_store.specs.Contents.{Contents, parts_at, with_bytes, without_part, part_at, with_parts}
pub use Rattle.wal_store.specs.Parts.{Parts, no_parts, part_of, with_part, is_empty}
pub use Rattle.wal_shard.specs.Holding.{HoldsMetadata, IsSound, payload_if, given, settled, not_held, no_shard}
pub use Rattle.wal_shard.specs.Keeping.{kept}
pub use Rattle.wal_shard.specs.Putting.{PutDesk, IsAccepted, PutsOrWants, Compares, put_id, Verifies, IsHeldIn, Puts, RestsOnMetadata, put_part}
pub use Rattle.wal_shard.specs.State.{AreSound, IsOwnMetadata, ShardState, desk}
pub use Rattle.wal_shard.specs.Vouching.{without_slivers, without_dead}
pub use Rattle.wal_shard.specs.declared.answers.PutAnswer.{PutAnswer}
pub use Rattle.wal_shard.specs.declared.answers.PutAnswer.TheVariants.{Held, OtherMetadata, Stored, Unregistered, NoMetadata, Unverified, Full, Memory}
