-- What the proofs of this crate cite from elsewhere, and of its own definitions, handed on from one place. Declares nothing.
pub use Rattle.std.proofs.Common.{◌≡◌, ◌≢◌, ◌⊎◌, ℕ, ◌<◌, List, [], ◌∷◌, ◌++◌, length, take, get_or, replicate, Bool, true, false, Contains, sym, ◌∙◌, arith, ⊎_elim, nat_eq, zero, suc, ◌+◌, ◌*◌, All, ap, length-append, Decides, refl, subst, inl, inr, slice_index, map, slice_get, Some, ◌≤◌, set, ◌-◌, rules}
pub use Rattle.std.proofs.Math.Seq.{take-append_seam}
pub use Rattle.std.proofs.lemmas.Bool.{cases_eq, false≢true, cases_lt}
pub use Rattle.std.proofs.lemmas.List.{get_or_default, get_or-replicate, get_or-set_other, get_or-set_same, get_or-take, length-replicate, length-set, length-take-le, get_or-map, length-map, append-nil, map-append, take_all, take_more, take_more_set}
pub use Rattle.std.proofs.lemmas.List.Elements.{Contains-append_left, Contains-push, Contains-push_cases, All-head, All-tail, All-nil, All-cons, All-push}
pub use Rattle.std.proofs.lemmas.Option.{slice_get-get_or, get_or_from_slice_get, slice_get_within}
pub use Rattle.std.proofs.lemmas.Result.{IfOk-weaker}
pub use Rattle.std.specs.List.{flat_map, AllByRecursion}
pub use Rattle.std.specs.Prelude.{slice_set, bytes_eq}
pub use Rattle.wal_code.specs.Codeword.{Distinct}
pub use Rattle.wal_commit.specs.Held.{HoldsSliver, HoldsOpening}
pub use Rattle.wal_commit.specs.Identifier.{IsIdentifierOf, identifier_of, Commits}
unfoldable pub use Rattle.wal_commit.specs.Identifier.{metadata_over}
pub use Rattle.wal_kernel.specs.Region.{region}
pub use Rattle.wal_matrix.proofs.Codewords.{region_after, AreBytes, bytes_of_part}
pub use Rattle.wal_matrix.proofs.Words.{line_is_word, bytes_joined}
pub use Rattle.wal_matrix.specs.Matrix.{primary_of, IsCodedMatrix, line_of, IsExtended}
unfoldable pub use Rattle.wal_matrix.specs.Matrix.{padded}
pub use Rattle.wal_shape.proofs.ShapeLaws.{symbol_size-least}
pub use Rattle.wal_shape.specs.EncodingProof.{EncodingProof, IsProof}
pub use Rattle.wal_shape.specs.MetaRef.{metadata_shown}
pub use Rattle.wal_shape.specs.Metadata.{BlobMetadata, IsMetadata, roots_of}
pub use Rattle.wal_shape.specs.Opening.{IsBody, opening_shown}
pub use Rattle.wal_shape.specs.ProofRef.{proof_shown}
pub use Rattle.wal_shape.specs.Shape.{shard_count, symbol_size, IsShape, sliver_symbols, column_count, most_bytes, BlobShape, row_count}
pub use Rattle.wal_shape.specs.declared.axis.Axis.{Axis}
pub use Rattle.wal_shape.specs.declared.axis.Axis.TheVariants.{Primary}
pub use Rattle.wal_shape.specs.declared.opening.Opening.{Opening}
pub use Rattle.wal_evidence.specs.BadProof.{AreEnough, HasRoot, IsBadProof, IsLineThrough, crosses_of, symbols_of, Checks, IsConsistent, IsFirstBad, ShowLine}
pub use Rattle.wal_evidence.specs.Evidence.{CommitsMatrix, HasFalseSliver, IsHeldBy, IsJudgedBy, sliver_bytes, IsVerdictOn, Judges}
pub use Rattle.wal_evidence.specs.declared.evidence.Basis.{Basis}
pub use Rattle.wal_evidence.specs.declared.evidence.Basis.TheVariants.{Slivers, Proof}
pub use Rattle.wal_evidence.specs.declared.evidence.Verdict.{Verdict}
pub use Rattle.wal_evidence.specs.declared.evidence.Verdict.TheVariants.{Bytes}
pub use Rattle.wal_evidence.specs.declared.proof.ProofVerdict.TheVariants.{BadOpening, Inconsistent, Repeated}
pub use Rattle.wal_evidence.specs.inside.Marks.{Marks, most_shards}
