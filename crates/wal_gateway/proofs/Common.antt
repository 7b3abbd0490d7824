-- What the proofs of this crate cite from elsewhere, and of its own definitions, handed on from one place. Declares nothing.
pub use Rattle.lru.proofs.CallerLemmas.{Contains-lookup, Contains-promoted, Contains-take, Contains-lookup_entry}
pub use Rattle.lru.proofs.Splits.{Contains-cons, Contains-nil}
pub use Rattle.lru.specs.LruCache.{LruCache, lru_cache, promoted, put_entries}
pub use Rattle.std.proofs.Common.{◌≡◌, ℕ, List, [], ◌∷◌, Option, Some, None, MatchOption, refl, sym, subst, ◌∙◌, arith, ◌++◌, ap, ◌≤◌, length, take, ⊎_elim, Bool, true, false, ◌⊎◌, inl, inr, cond, Result, Ok, Err, IfOk, zero, suc, ◌+◌, ◌-◌, ◌<◌, append-nil, append_assoc, length-append}
pub use Rattle.std.proofs.lemmas.List.{length-take, take_at}
pub use Rattle.std.specs.List.{AllByRecursion}
unfoldable pub use Rattle.std.specs.List.{IsDistinct}
pub use Rattle.std.specs.Map.{keys_of, lookup, remove_entry, lookup_entry}
pub use Rattle.std.specs.Option.{is_some, option_map, option_map_or, option_copied}
pub use Rattle.wal_evidence.specs.Evidence.{IsJudgedBy, IsHeldBy}
pub use Rattle.wal_evidence.specs.declared.evidence.Basis.{Basis}
pub use Rattle.wal_evidence.specs.declared.evidence.Basis.TheVariants.{Slivers, Proof}
pub use Rattle.wal_evidence.specs.declared.evidence.Evidence.{Evidence}
pub use Rattle.wal_extract.specs.Contrary.{AreDigestedForEvidence, ContradictsBlob}
pub use Rattle.wal_frame.specs.Frame.{envelope}
pub use Rattle.wal_frame.specs.Front.{whole_in}
pub use Rattle.wal_reader.specs.Outcome.{HasEvidence, IsEvidenceFor, IsDrawnFrom, IsMetadataIn, IsOnlyOutcome, IsOutcome, IsVerdict, SameOutcome, Decides, IsAnswer}
pub use Rattle.wal_reader.specs.declared.outcome.Outcome.{Outcome}
pub use Rattle.wal_shape.specs.Identifiers.{id_eq}
pub use Rattle.wal_shape.specs.Metadata.{BlobMetadata}
pub use Rattle.wal_shape.specs.Shape.{BlobShape}
pub use Rattle.wal_shape.specs.declared.metadata.BlobId.{BlobId}
pub use Rattle.wal_gateway.specs.Getting.{AnswersGet, AnswersAll, Cache, Get, Hits, Misses, kept_blob, blob_with, entered, used, found_of, range_of, Leaves, asked}
pub use Rattle.wal_gateway.specs.Gotten.{AreOnlyAnswers, IsOnlyAnswer, SameGetAnswer, SameAnswers, SameFound}
pub use Rattle.wal_gateway.specs.Kept.{AreChecked, AreDigestedForKept, ContradictsKept, IsChecked, IsSoundCache, IsFreshOrContrary}
pub use Rattle.wal_gateway.specs.declared.answer.Found.{Found}
pub use Rattle.wal_gateway.specs.declared.answer.GetAnswer.{GetAnswer}
pub use Rattle.wal_gateway.specs.declared.checked.CheckedBlob.{CheckedBlob}
