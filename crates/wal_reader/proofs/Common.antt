-- What the proofs of this crate cite from elsewhere, and of its own definitions, handed on from one place. Declares nothing.
pub use Rattle.std.proofs.Common.{◌≡◌, ℕ, List, Ok, arith, sym, ap, subst, ◌∙◌, ◌≢◌, [], ◌∷◌, ◌++◌, refl, ⊎_elim, append_assoc, length-append, Any, Bool, true, false, ◌&&◌, nat_eq, Result, if◌then◌else◌, ap₂, suc, ◌+◌, ◌<◌, length, take, drop, get_or, ◌≤◌, inl, inr, Option, None, Err, IfOk, ◌⊎◌, append-nil, ◌*◌, All, Some, ◌↔◌, IsTrue, map, slice_index, Contains, ◌-◌, ◌^◌, rules, is_some, vec_len}
pub use Rattle.std.proofs.lemmas.Bool.{cases_lt, false≢true, eqb-true, ltb-true}
pub use Rattle.std.proofs.lemmas.List.{get_or_append_left, take-append-drop, get_or_push, take_more, length-replicate, get_or_past, get_or-map, length-map, map-append, take_all, length-take, length-drop, nil_from_length, drop_more, drop_all, length-take-le}
pub use Rattle.std.proofs.lemmas.List.Elements.{All-push, All-append, All-from_get_or}
pub use Rattle.std.proofs.lemmas.Result.{on_ok_weaker, err_from_is_err_and}
pub use Rattle.std.specs.Prelude.{replicate, IfErr}
pub use Rattle.wal_code.specs.Codeword.{Distinct}
pub use Rattle.wal_commit.specs.Held.{HoldsSliver}
pub use Rattle.wal_commit.specs.Identifier.{AreDigestedFor, Commits}
pub use Rattle.wal_evidence.specs.Evidence.{Judges, AreHeld, sliver_bytes}
pub use Rattle.wal_evidence.specs.declared.evidence.Verdict.{Verdict}
pub use Rattle.wal_frame.proofs.FrameLaws.{length-sliver_frame, read_is}
pub use Rattle.wal_frame.specs.Frame.{Sliver, Frame, Opening, Proof, Metadata, frame_text, metadata_kind, envelope}
pub use Rattle.wal_frame.specs.Front.{IsWrong, BeginsNone, IsPart}
pub use Rattle.wal_frame.specs.Reading.{read_of}
pub use Rattle.wal_frame.specs.Stream.{IsStream, IsMalformed, IsPayload, size_in}
unfoldable pub use Rattle.wal_frame.specs.Stream.{envelope_at}
pub use Rattle.wal_frame.specs.declared.frame.FrameError.{FrameError}
pub use Rattle.wal_shape.proofs.MetadataLaws.{length-metadata_text, text_size-most, metadata_text-injective}
pub use Rattle.wal_shape.proofs.Numbers.{IsBytes, IsBytes-drop, IsBytes-take, wide32}
pub use Rattle.wal_shape.specs.EncodingProof.{EncodingProof}
pub use Rattle.wal_shape.specs.MetaRef.{metadata_shown}
pub use Rattle.wal_shape.specs.Metadata.{BlobMetadata}
pub use Rattle.wal_shape.specs.ProofRef.{proof_shown}
pub use Rattle.wal_shape.specs.Shape.{row_count, column_count, sliver_symbols, symbol_size}
pub use Rattle.wal_shape.specs.Spelling.{proof_text, metadata_text, number_text}
pub use Rattle.wal_shape.specs.declared.axis.Axis.{Axis}
pub use Rattle.wal_shape.specs.declared.axis.Axis.TheVariants.{Primary}
pub use Rattle.wal_shape.specs.declared.text.MetaClash.{MetaClash}
pub use Rattle.wal_reader.specs.Carried.{CarriesHeldSliver, claim_for, claims_in, opening_at, opening_for, openings_in, same_axis, CarriesBadProof, CarriesProof, IsFirst, NoneIn, IsFirstBadProof, NoBadProof, NoHeldSliver, NoProof}
pub use Rattle.wal_reader.specs.Heard.{CarriesNoPart, HasKept, HasKnown, HasParts, Sifts, none, HeardState, HasHeard, kept, dropped, IsEnough, IsProofFound, IsSettledKept, IsSettledState}
pub use Rattle.wal_reader.specs.Intake.{IntakeState, IsCut, IsWrongAt, ReadsPast, StandsAt, AreBytes, KeepsPart, past}
pub use Rattle.wal_reader.specs.Outcome.{AreFirstTwo, CarriesMetadata, HasMetadata, IsFirstMetadata, IsFirstOther, IsMetadataIn, Collects, Decides, HoldsFew, IsAnswer, IsEvidenceFor, IsOnlyOutcome, CarriesSliver, HasEnough, GivesSliver, HasSliver, IndexedSliver, IsVerdict, IsOutcome, HasEvidence}
pub use Rattle.wal_reader.specs.declared.errors.FeedError.{FeedError}
pub use Rattle.wal_reader.specs.declared.errors.FeedError.TheVariants.{Malformed, TooLong, Memory}
pub use Rattle.wal_reader.specs.declared.kept.Kept.TheVariants.{Two, Waiting, One}
pub use Rattle.wal_reader.specs.declared.known.Known.{Known}
pub use Rattle.wal_reader.specs.declared.outcome.Outcome.{Outcome}
pub use Rattle.wal_reader.specs.declared.outcome.Outcome.TheVariants.{Short, NoMetadata, Collision, Bytes, Reject}
pub use Rattle.wal_reader.specs.declared.outcome.ReadAnswer.{ReadAnswer}
pub use Rattle.wal_reader.specs.inside.Intake.{Refuses, Takes, IsUnfinished, IsLacking, CannotMatter, Hears, IsSound, Moves, shown}
pub use Rattle.wal_reader.specs.inside.Longest.{longest_part}
pub use Rattle.wal_reader.specs.inside.Outcome.{IsAnswerOf, told_outcome}
