-- What the proofs of this crate cite from elsewhere, and of its own definitions, handed on from one place. Declares nothing.
pub use Rattle.hex.specs.Hex.{encode_lower, lower_digits}
pub use Rattle.sha2.specs.Sha256.{sha256}
pub use Rattle.std.proofs.Common.{◌≡◌, ◌⊎◌, inl, inr, ℕ, ◌<◌, ◌≤◌, List, [], length, sym, ap, arith, suc, ◌+◌, ◌*◌, ◌∷◌, length-append, length-take, codes, ◌∙◌, zero, ◌/◌, Some, refl, min, true, ◌++◌, take, drop, append-nil, Option, decimal, ◌-◌, ◌^◌, map, le_refl, Result, Ok, ◌≢◌, slice_index_or, string_bytes, rules, add-one}
pub use Rattle.std.proofs.lemmas.Bool.{cases_lt, cases_eq}
pub use Rattle.std.proofs.lemmas.Fmt.{length-decimal-le}
pub use Rattle.std.proofs.lemmas.Grind.{flat_map-append, common_steps}
pub use Rattle.std.proofs.lemmas.List.{append_cancel_left, append_assoc}
pub use Rattle.std.specs.List.{flat_map}
pub use Rattle.std.specs.Prelude.{⊤, IsUtf8}
pub use Rattle.wal_commit.proofs.Commitments.{length-head, IsMetadata-over}
pub use Rattle.wal_commit.specs.Identifier.{AreDigestedFor, held_pairs, identifier_text}
unfoldable pub use Rattle.wal_commit.specs.Identifier.{identifier_of, metadata_over}
pub use Rattle.wal_event.specs.Report.{hex_text}
pub use Rattle.wal_evidence.specs.BadProof.{Checks}
pub use Rattle.wal_evidence.specs.declared.proof.ProofVerdict.{ProofVerdict}
pub use Rattle.wal_frame.proofs.FrameLaws.{length-sliver_frame, frame_is}
pub use Rattle.wal_frame.specs.Frame.{sliver_frame, envelope, Frame, Sliver, metadata_frame}
pub use Rattle.wal_frame.specs.Reading.{read_of}
pub use Rattle.wal_frame.specs.Stream.{IsStream, IsMalformed}
pub use Rattle.wal_frame.specs.declared.frame.FrameError.{FrameError}
pub use Rattle.wal_port.specs.Faults.{Rose}
pub use Rattle.wal_reader.specs.Carried.{claims_in, claim_for}
pub use Rattle.wal_reader.specs.Outcome.{IsMetadataIn, Collects, Decides, GivesSliver, IndexedSliver}
pub use Rattle.wal_run.specs.Answers.{Ends, whole, no_memory_for_words, no_memory, broke_off, source_failed, sink_failed, cut_off, serving_ended, Answers, usage, too_long, done}
pub use Rattle.wal_run.specs.Around.{Around}
pub use Rattle.wal_run.specs.Causes.{Causes, HasOneAnswer, IsComplete, IsExact, IsUsage, ShowsCause}
pub use Rattle.wal_run.specs.Checking.{verdict_text, checking}
pub use Rattle.wal_run.specs.Command.{nothing, Command, Grammar, IsTaken, IsTakenWhole, MayLeave, TakenBy, Content, HasNone, IsFault, IsLacking, IsRejection, IsUnreadable, Misspells, Spells, bytes, envelopes_of, schedule, ClashesBehind, HasTwoMetadata, IsResult, success, rejection, lacking, unreadable, collision}
pub use Rattle.wal_run.specs.Commands.{command_of, usage_text}
pub use Rattle.wal_run.specs.Lines.{collision_text}
pub use Rattle.wal_serve.specs.Saying.{sent}
pub use Rattle.wal_serve.specs.Serving.{Wrote}
pub use Rattle.wal_serve.specs.declared.serving.ServeEnd.{ServeEnd}
pub use Rattle.wal_shape.proofs.MetadataLaws.{length-metadata_text}
pub use Rattle.wal_shape.proofs.ShapeLaws.{symbol_size-least}
pub use Rattle.wal_shape.specs.EncodingProof.{EncodingProof}
pub use Rattle.wal_shape.specs.Metadata.{BlobMetadata, held_index}
pub use Rattle.wal_shape.specs.Shape.{IsShape, column_count, most_bytes, shard_count, sliver_symbols, symbol_size, row_count, BlobShape}
pub use Rattle.wal_shape.specs.Spelling.{format_text, metadata_text, text_size}
pub use Rattle.wal_shape.specs.declared.axis.Axis.{Axis}
pub use Rattle.wal_shape.specs.declared.axis.Axis.TheVariants.{Primary, Secondary}
pub use Rattle.wal_shape.specs.declared.metadata.BlobId.{BlobId}
pub use Rattle.wal_shape.specs.declared.shape.Format.{Format}
pub use Rattle.wal_shard.proofs.ReplyLaws.{length-envelope}
pub use Rattle.wal_words.specs.Task.{IsTask, NoTask, encode, verify, IsRow}
pub use Rattle.wal_words.specs.declared.task.Audit.{Audit}
pub use Rattle.wal_words.specs.declared.task.Task.{Task}
pub use Rattle.wal_words.specs.declared.task.Task.TheVariants.{Whole, Serve}
pub use Rattle.wal_words.specs.declared.task.WholeTask.TheVariants.{Identify, Encode, Recover, Check, Image, Unpack, Bundle, Member, Challenge, Verify}
pub use Rattle.walrus_c.specs.Call.{Comes, around, IsFilled, IsUntouched, Returns}
pub use Rattle.walrus_c.specs.Codes.{first_code}
unfoldable pub use Rattle.walrus_c.specs.Codes.{code_of, refusals}
pub use Rattle.walrus_c.specs.Room.{IsRoom, Suffices, encoded_bytes, no_memory_told, read_most, room_of}
pub use Rattle.walrus_c.specs.Words.{AreNoWords, AreWords, HasNoZero}
pub use Rattle.walrus_c.specs.inside.Ranges.{InRange}
pub use Rattle.walrus_c.specs.inside.Reading.{ReadSoFar}
