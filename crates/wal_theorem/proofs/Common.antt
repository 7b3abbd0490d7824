-- What the proofs of this crate cite from elsewhere, and of its own definitions, handed on from one place. Declares nothing.
pub use Rattle.std.proofs.Common.{◌≡◌, ◌≢◌, ℕ, List, true, Option, Some, None, IsSome, Ok, refl, sym, ap, subst, ◌∙◌, ⊎_elim, ◌⊎◌, [], ◌∷◌, length, map, take, All, arith, inl, inr, ◌+◌, ◌<◌, ◌≤◌, Bool, Contains, false, cond, ◌&&◌, is_some, unwrap_or, ◌++◌, get_or, nat_eq, Any, ◌*◌, ◌/◌, ap₂, true≢false, ◌-◌, replicate, slice_index, if◌then◌else◌, Result, ◌%◌}
pub use Rattle.std.proofs.lemmas.Bool.{cases_lt, cases_eq, false≢true}
pub use Rattle.std.proofs.lemmas.List.{length-map, get_or-map, get_or_default}
pub use Rattle.std.proofs.lemmas.List.Elements.{All-nil, All-cons, Contains-append_left, Contains-append_right, All-append, Contains-append_cases, All-head, All-tail, All-from_recursion}
pub use Rattle.std.specs.Int.{w16, w32, w8}
pub use Rattle.std.specs.List.{flat_map, list_any, AllByRecursion}
pub use Rattle.wal_commit.proofs.Clashes.{identifier_is}
pub use Rattle.wal_commit.proofs.HonestOpenings.{one_opening, committed_matrix, committed_opening, honest_opening}
pub use Rattle.wal_commit.proofs.MetadataBytes.{honest_bytes, number16_bytes, number32_bytes, number8_bytes}
pub use Rattle.wal_commit.proofs.OneDigest.{IsDigest, IsOneToOne, one_metadata, one_sliver, one_symbol, path_bytes, byte_first, text_bytes, is_32, bytes_behind, bytes_before}
pub use Rattle.wal_commit.specs.Held.{HoldsOpening, HoldsSliver}
pub use Rattle.wal_commit.specs.Identifier.{IsIdentifierOf, identifier_of, Commits, IsMetadataOf, identifier_text}
unfoldable pub use Rattle.wal_commit.specs.Identifier.{metadata_over}
pub use Rattle.wal_event.specs.Event.{Fits, IsSchedule, IsEventWithin}
pub use Rattle.wal_event.specs.declared.event.Event.{Event}
pub use Rattle.wal_event.specs.declared.event.Schedule.{Schedule}
pub use Rattle.wal_event.specs.declared.line.Line.{Line}
pub use Rattle.wal_event.specs.declared.line.ReadWord.{ReadWord}
pub use Rattle.wal_event.specs.declared.line.ReadWord.TheVariants.{Bytes, NoMetadata, Reject, Short}
pub use Rattle.wal_event.specs.declared.line.RecoverWord.{RecoverWord}
pub use Rattle.wal_event.specs.declared.line.RecoverWord.TheVariants.{NoMetadata, Short, Inconsistent, Absent, Ignored, Proof, Sliver, Unregistered}
pub use Rattle.wal_evidence.proofs.FirstOfEach.{some_taken, takes_all, first_taken}
pub use Rattle.wal_evidence.proofs.SameOrNot.{one_to_one, same_or_not}
pub use Rattle.wal_evidence.proofs.Verdicts.{true_verdict, one_verdict}
pub use Rattle.wal_evidence.specs.BadProof.{AreEnough, IsLineThrough, crosses_of, symbols_of, HasRoot, IsBadProof}
pub use Rattle.wal_evidence.specs.Evidence.{Judges, IsEvidence, IsJudgedBy, AreHeld, CommitsMatrix, sliver_bytes, IsHeldBy}
pub use Rattle.wal_evidence.specs.declared.evidence.Basis.{Basis}
pub use Rattle.wal_evidence.specs.declared.evidence.Basis.TheVariants.{Slivers, Proof}
pub use Rattle.wal_evidence.specs.declared.evidence.Evidence.{Evidence}
pub use Rattle.wal_evidence.specs.declared.evidence.Verdict.{Verdict}
pub use Rattle.wal_evidence.specs.declared.evidence.Verdict.TheVariants.{Bytes, Reject}
pub use Rattle.wal_frame.proofs.FrameLaws.{read_is, read_again}
pub use Rattle.wal_frame.specs.Frame.{Frame, Metadata, Sliver, Proof, IsFrame, IsSliver, frame_text, sliver_frame, metadata_frame, metadata_kind, sliver_front, target_text, Opening as OpeningFrame}
pub use Rattle.wal_frame.specs.Reading.{read_of}
pub use Rattle.wal_frame.specs.Stored.{stored_bytes}
pub use Rattle.wal_kernel.specs.Region.{word_at, region}
pub use Rattle.wal_ledger.proofs.Quorums.{count_below-some, count_below-mono, count_below-among}
pub use Rattle.wal_ledger.specs.Ledger.{Log, is_live}
pub use Rattle.wal_ledger.specs.Shards.{count_below, committee_size, quorum_size}
pub use Rattle.wal_matrix.proofs.Codewords.{AreBytes, bytes_of_part, word_of_bytes}
pub use Rattle.wal_matrix.proofs.Decoded.{through_some, source_of_extended, AreSlivers, through_unique}
pub use Rattle.wal_matrix.proofs.MatrixLaws.{extended_unique, bytes_within}
pub use Rattle.wal_matrix.proofs.ThroughLaws.{source-row, source_by_rows, source_long, bytes_of_primary}
pub use Rattle.wal_matrix.proofs.Words.{line_is_word, bytes_joined, bytes_of_column}
pub use Rattle.wal_matrix.specs.Matrix.{row_of, line_of, primary_of, sliver_of}
unfoldable pub use Rattle.wal_matrix.specs.Matrix.{padded, secondary_of}
pub use Rattle.wal_matrix.specs.Through.{source_of}
pub use Rattle.wal_protocol.proofs.EveryEvent.{every_event, every_run}
pub use Rattle.wal_protocol.proofs.EveryWord.{surely, then, by_cases, truth}
pub use Rattle.wal_protocol.proofs.OneStep.{one_step, one_run}
pub use Rattle.wal_protocol.proofs.Safety.{facts_first, safe, recoveries}
pub use Rattle.wal_protocol.proofs.Stepped.{facts_step}
pub use Rattle.wal_protocol.specs.Facts.{Facts}
pub use Rattle.wal_protocol.specs.Rules.{Rules}
pub use Rattle.wal_protocol.specs.Run.{first_state, is_collision, Runs, IsRun}
pub use Rattle.wal_protocol.specs.State.{Committee, World, side_of, writing_side, held, with_contents, verdict_of}
pub use Rattle.wal_protocol.specs.Step.{is_clash, told_by, PutsEach, letters, IsWrite, SendStep, reply_payloads, read_payloads, ReadCompletes, ReadStep, ReadCollides, two_metadata, other_answer, IsReplyOf, AreReplies, RecoveryRuns, RecoverStep, CollisionStep, Steps}
pub use Rattle.wal_protocol.specs.Total.{Possible, HasBytes, HasStep, HasRun}
pub use Rattle.wal_protocol.specs.declared.first.First.{First}
pub use Rattle.wal_protocol.specs.declared.first.First.TheVariants.{Judged, Written}
pub use Rattle.wal_protocol.specs.inside.Laws.{AllSound, AreAmong, RepliedTo, Laws, IsAbove, AreAbove, Helped, forgotten, IsDecidedBy, IsSettledBy}
pub use Rattle.wal_protocol.specs.inside.Total.{HasCollision, HasRoom, IsAnswered, IsReadAs, Total, IsFound}
pub use Rattle.wal_reader.proofs.Collections.{collects_few, enough_are_held, collects_all, one_collection}
pub use Rattle.wal_reader.proofs.FirstOnes.{first_not_none, first_two, one_first, one_proof}
pub use Rattle.wal_reader.proofs.OneOutcome.{only_collision, HasFew, HasVerdict, only_verdict, only_refuted, only_short, only_none}
pub use Rattle.wal_reader.proofs.PayloadBytes.{metadata_of, metadata_carried, spells}
pub use Rattle.wal_reader.specs.Carried.{CarriesBadProof, IsFirst, IsFirstBadProof, NoneIn, NoBadProof, openings_in, same_axis, opening_for}
pub use Rattle.wal_reader.specs.Outcome.{Collects, Decides, GivesSliver, HasMetadata, HoldsFew, IndexedSliver, IsEvidenceFor, IsMetadataIn, CarriesMetadata, CarriesSliver, SameOutcome, IsDrawnFrom, HasEvidence, IsOnlyOutcome, IsOutcome}
pub use Rattle.wal_reader.specs.Settled.{HasTwo}
pub use Rattle.wal_reader.specs.declared.outcome.Outcome.{Outcome}
pub use Rattle.wal_reader.specs.declared.outcome.Outcome.TheVariants.{Bytes, Collision, NoMetadata, Reject, Short}
pub use Rattle.wal_recover.proofs.OneRecovery.{one_recovery, enough, list_held, committed}
pub use Rattle.wal_recover.specs.declared.outcome.Recovered.TheVariants.{Inconsistent, Short, Sliver}
pub use Rattle.wal_recover.specs.Recovery.{GivesOpening, Takes}
pub use Rattle.wal_shape.proofs.MetadataLaws.{metadata_text-injective, held_index-primary, spelled_metadata-text, held_index-within, held_index-twice}
pub use Rattle.wal_shape.proofs.ShapeLaws.{symbol_size-least}
pub use Rattle.wal_shape.specs.EncodingProof.{EncodingProof, IsProof}
pub use Rattle.wal_shape.specs.Metadata.{BlobMetadata, IsMetadata, held_index}
pub use Rattle.wal_shape.specs.Part.{sliver_part}
pub use Rattle.wal_shape.specs.Shape.{row_count, symbol_size, IsShape, shard_count, sliver_symbols, column_count, crossing, most_bytes}
pub use Rattle.wal_shape.specs.Spelling.{metadata_text, number_text, axis_number}
unfoldable pub use Rattle.wal_shape.specs.Spelling.{proof_text, body_text}
pub use Rattle.wal_shape.specs.declared.axis.Axis.{Axis}
pub use Rattle.wal_shape.specs.declared.axis.Axis.TheVariants.{Primary, Secondary}
pub use Rattle.wal_shape.specs.declared.metadata.BlobId.{BlobId}
pub use Rattle.wal_shape.specs.declared.opening.Opening.{Opening}
pub use Rattle.wal_shape.specs.declared.part.Part.{Part}
pub use Rattle.wal_shape.specs.declared.part.Part.TheVariants.{Metadata, Primary, Proof}
pub use Rattle.wal_shape.specs.declared.shape.Format.{Format}
pub use Rattle.wal_shape.specs.declared.text.MetaClash.{MetaClash}
pub use Rattle.wal_shard.proofs.HeldLaws.{own_metadata, some_of, beside, beside_proof}
pub use Rattle.wal_shard.proofs.Soundness.{one_metadata as one_held, none_sound, without_sliver_sound, metadata_sound}
pub use Rattle.wal_shard.specs.Holding.{HoldsMetadata, IsSound, has_proof, primary_reply, metadata_reply, proof_reply, settled, OpeningReply, given, not_held, no_shard, SymbolReplies, payload_if, read_reply_of}
pub use Rattle.wal_shard.specs.Keeping.{kept, kept_sliver, kept_proof}
pub use Rattle.wal_shard.specs.Putting.{CanBePut, IsAccepted, RestsOnMetadata, Verifies, put_id, put_part, Puts}
pub use Rattle.wal_shard.specs.State.{desk_of, AreSound, IsOwnMetadata}
pub use Rattle.wal_shard.specs.declared.answers.PutAnswer.{PutAnswer}
pub use Rattle.wal_shard.specs.declared.answers.PutAnswer.TheVariants.{Stored, Held, Unregistered, Unverified, OtherMetadata, Full, Memory, NoMetadata}
pub use Rattle.wal_store.specs.Contents.{Contents, parts_at, part_at, with_bytes}
pub use Rattle.wal_store.specs.Parts.{Parts, with_part, part_of, no_parts}
pub use Rattle.wal_tree.specs.Path.{path_over}
pub use Rattle.wal_writer.proofs.Messages.{sliver_short, message_fits}
pub use Rattle.wal_writer.specs.Message.{IsMessageOf, message_to}
pub use Rattle.wal_theorem.specs.Instance.{IsPutFrame, ReadsTo, IsBackedBy, rules_of, HoldsBadProof, PutsFrame, Knows, KnowsTwo, IsKnown, SymbolReply, silent, replies, outcome_told, OwnOpeningsComeTo, RecoversTo, HoldsCommitted, CommitsSliver}
pub use Rattle.wal_theorem.specs.OfBytes.{WorldOfBytes, IsOfBytes, BasisOfBytes, FirstOfBytes}
