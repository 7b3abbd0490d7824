-- What the proofs of this crate cite from elsewhere, and of its own definitions, handed on from one place. Declares nothing.
pub use Rattle.std.proofs.Common.{◌≡◌, ◌⊎◌, inl, inr, ⊎_elim, ℕ, true, append-nil, List, [], ◌∷◌, ◌++◌, Option, Ok, Err, refl, sym, ap, subst, ◌∙◌, arith, map, All, ◌≤◌, Some, None, length, IfSome, codes, Result, zero, suc, ◌+◌, ◌-◌, ◌<◌, take, get_or, replicate, length-append, Bool, ◌*◌, false, OnOk, OnErr, append_assoc, IsErrAnd, IsErrOf, ap₂, MatchOption, drop, zero-add, not, ◌&&◌, ◌||◌, nat_lt, lt-ltb, eq-eqb, T, filter, slice_get, min, add-zero, rules}
pub use Rattle.std.proofs.KnownBytes.{Appends-kept, Appends-nil, Appends-trans, Consumes-trans, Consumes-kept, Keeps-refl, Consumes-nil}
pub use Rattle.std.proofs.Math.Seq.{take-append-add}
pub use Rattle.std.proofs.lemmas.Bool.{le-ltb, false≢true}
pub use Rattle.std.proofs.lemmas.Grind.{flat_map-append}
pub use Rattle.std.proofs.lemmas.List.{length-drop, length-take, take_at, take_more, length-replicate, take-append-le, nil_from_length, get_or-take, length-take-le, take-append-drop}
pub use Rattle.std.specs.Io.KnownBytes.{Appends, Keeps, Consumes, IsAtEnd}
pub use Rattle.std.specs.List.{AllByRecursion, flat_map, list_all, range_with_len}
pub use Rattle.std.specs.Prelude.{is_some, ⊤}
pub use Rattle.wal_bundle.specs.Member.{IsMember}
pub use Rattle.wal_challenge.proofs.AnswerLaws.{answers_more, answers_none, one_answer, same_draw, shown_holds}
pub use Rattle.wal_challenge.specs.Answer.{AreAnswers, HoldsBoth, ShowsDrawn, draw_of, AreWordsOf}
pub use Rattle.wal_challenge.specs.Verdict.{claim_of, claims_from}
pub use Rattle.wal_challenge.specs.declared.drawing.Draw.{Draw}
pub use Rattle.wal_commit.proofs.Bodies.{held_body}
pub use Rattle.wal_commit.proofs.Commitments.{flat_map-more}
pub use Rattle.wal_commit.specs.Identifier.{IsIdentifierOf, identifier_of}
unfoldable pub use Rattle.wal_commit.specs.Identifier.{metadata_over}
pub use Rattle.wal_event.specs.Report.{report_of, hex_text}
unfoldable pub use Rattle.wal_event.specs.Report.{line_text}
pub use Rattle.wal_event.specs.declared.event.Event.{Event}
pub use Rattle.wal_event.specs.declared.event.Schedule.{Schedule}
pub use Rattle.wal_event.specs.declared.line.Line.{Line}
pub use Rattle.wal_frame.proofs.FrameLaws.{length-sliver_frame, length-opening_frame}
pub use Rattle.wal_frame.proofs.StreamLaws.{stream_grows, wrong_stays}
pub use Rattle.wal_frame.specs.Buffer.{Buffer, appended}
pub use Rattle.wal_frame.specs.Frame.{Frame, envelope, sliver_frame, Sliver, Opening, frame_text}
pub use Rattle.wal_frame.specs.Reading.{read_of}
pub use Rattle.wal_frame.specs.Stream.{IsStream, IsPayload, IsMalformed}
pub use Rattle.wal_frame.specs.declared.frame.FrameError.{FrameError}
pub use Rattle.wal_gateway.specs.Requests.{IsFirstRequest, get_of, gets_in, no_blobs}
pub use Rattle.wal_journal.proofs.Records.{records-append, spelling_size, stands_once}
pub use Rattle.wal_journal.specs.FlatDisk.{flat_bytes}
pub use Rattle.wal_journal.specs.Held.{IsJournal}
pub use Rattle.wal_journal.specs.Packing.{puts_of}
pub use Rattle.wal_journal.specs.Record.{spelling, records, Accepts}
pub use Rattle.wal_ledger.specs.Ledger.{Log, LedgerState, owners_of}
pub use Rattle.wal_matrix.proofs.Slivers.{row_of-symbol, secondary_long}
pub use Rattle.wal_matrix.specs.Matrix.{IsExtended, primary_of, row_of, symbol, symbol_bytes, shards}
unfoldable pub use Rattle.wal_matrix.specs.Matrix.{column_part, secondary_of}
pub use Rattle.wal_port.specs.Appending.{AppendsPart}
pub use Rattle.wal_port.specs.declared.transfers.TakeError.{TakeError}
pub use Rattle.wal_protocol.proofs.EveryWord.{truth}
pub use Rattle.wal_protocol.proofs.OneStep.{apart_left, apart_right, not_going, one_run}
pub use Rattle.wal_protocol.specs.Determined.{SameUpToCollision, SameLines}
pub use Rattle.wal_protocol.specs.Rules.{Rules}
pub use Rattle.wal_protocol.specs.Run.{GoesOn, is_collision, Runs, first_state}
pub use Rattle.wal_protocol.specs.State.{World}
pub use Rattle.wal_protocol.specs.Step.{Steps}
pub use Rattle.wal_reader.proofs.FirstOnes.{first_not_none, one_first, one_proof, first_two}
pub use Rattle.wal_reader.specs.Carried.{CarriesProof, IsFirstProof, NoProof, claims_in, CarriesHeldSliver, openings_in}
pub use Rattle.wal_reader.specs.Outcome.{IsMetadataIn, IsOutcome, SameOutcome}
pub use Rattle.wal_reader.specs.Standing.{ReaderState, StandsFor}
pub use Rattle.wal_reader.specs.declared.outcome.Outcome.{Outcome}
pub use Rattle.wal_recover.specs.Recovery.{HasCommittedSliver, OpeningsComeTo}
pub use Rattle.wal_recover.specs.declared.outcome.Recovered.{Recovered}
pub use Rattle.wal_recover.specs.declared.outcome.Recovered.TheVariants.{Inconsistent, Short}
pub use Rattle.wal_schedule.proofs.SpelledBytes.{spelled_bytes, spelled_range}
pub use Rattle.wal_schedule.specs.Grammar.{IsRead}
pub use Rattle.wal_schedule.specs.declared.read.ScheduleError.{ScheduleError}
pub use Rattle.wal_serve.proofs.Fronts.{one_envelope, Compared, Longer, compared}
pub use Rattle.wal_serve.proofs.OneEnd.{one_serving, Why, none_follows}
pub use Rattle.wal_serve.proofs.OneTable.{one_table}
pub use Rattle.wal_serve.proofs.TakingLaws.{rose_since}
pub use Rattle.wal_serve.specs.Determined.{SameButLast, SameEnd}
pub use Rattle.wal_serve.specs.Reply.{clash_in, put_reply, clash_text}
pub use Rattle.wal_serve.specs.Room.{desk_room}
pub use Rattle.wal_serve.specs.Saying.{sent}
pub use Rattle.wal_serve.specs.Serving.{Serves, Table, Wrote, Replies, IsServed, BreaksOff}
pub use Rattle.wal_serve.specs.State.{ServedState, state_of}
pub use Rattle.wal_serve.specs.declared.serving.ServeEnd.{ServeEnd}
pub use Rattle.wal_serve.specs.declared.serving.ServeEnd.TheVariants.{Done, ReadFault, WriteFault}
pub use Rattle.wal_shape.specs.EncodingProof.{EncodingProof, IsProof}
pub use Rattle.wal_shape.specs.MetaRef.{metadata_shown}
pub use Rattle.wal_shape.specs.Metadata.{BlobMetadata, held_index, IsMetadata}
pub use Rattle.wal_shape.specs.Opening.{IsBody, opening_shown}
pub use Rattle.wal_shape.specs.Shape.{BlobShape, shard_count, symbol_size, IsShape, column_count, sliver_symbols, most_bytes, row_count, crossing}
pub use Rattle.wal_shape.specs.Spelling.{body_text}
unfoldable pub use Rattle.wal_shape.specs.Spelling.{proof_text}
pub use Rattle.wal_shape.specs.declared.axis.Axis.{Axis}
pub use Rattle.wal_shape.specs.declared.axis.Axis.TheVariants.{Primary, Secondary}
pub use Rattle.wal_shape.specs.declared.metadata.BlobId.{BlobId}
pub use Rattle.wal_shape.specs.declared.part.Part.{Part}
pub use Rattle.wal_shape.specs.declared.shape.Format.{Format}
pub use Rattle.wal_shape.specs.declared.text.MetaClash.{MetaClash}
pub use Rattle.wal_shard.specs.State.{ShardState, desk}
pub use Rattle.wal_store.specs.Calls.{Call, Put, no_contents, after_calls}
pub use Rattle.wal_store.specs.Contents.{Contents, parts_at}
pub use Rattle.wal_theorem.proofs.OneReading.{metadata_fits, only_outcome, reject_evidence}
pub use Rattle.wal_theorem.proofs.OneWorld.{only_rules}
pub use Rattle.wal_theorem.specs.Instance.{rules_of}
pub use Rattle.wal_theorem.specs.Lines.{AreFirstLines, AreLines, EndsInCollision, front_of}
pub use Rattle.wal_tree.specs.Collision.{IsCollision}
pub use Rattle.wal_words.proofs.Rows.{one_task}
pub use Rattle.wal_words.specs.Task.{IsTask, HasNumber}
pub use Rattle.wal_words.specs.declared.task.Audit.{Audit}
pub use Rattle.wal_words.specs.declared.task.Service.{Service}
pub use Rattle.wal_words.specs.declared.task.Task.{Task}
pub use Rattle.wal_words.specs.declared.task.Task.TheVariants.{Serve, Read, Sample, Whole}
pub use Rattle.wal_words.specs.declared.task.WholeTask.TheVariants.{Challenge, Check, Encode, Identify, Image, Recover, Replay, Unpack, Bundle, Member, Verify, Gateway}
pub use Rattle.wal_run.specs.Answers.{Answers, Ends, broke_off, cut_off, done, no_memory, no_memory_for_words, serving_ended, sink_failed, source_failed, too_long, usage, whole, answered, Completes, served}
pub use Rattle.wal_run.specs.Around.{Around}
pub use Rattle.wal_run.specs.Bundling.{bundling}
pub use Rattle.wal_run.specs.Causes.{IsComplete, HasOneAnswer, IsExact, WasTold, Causes, IsUsage, ShowsCause}
pub use Rattle.wal_run.specs.Challenging.{HasShard, LacksShard, AnswersDraws, HasNoSliver, IsOwnSliver, answer_text, challenging, claim_envelope}
pub use Rattle.wal_run.specs.Checking.{checking, verdict_text}
pub use Rattle.wal_run.specs.Command.{IsFault, IsFrontOf, IsFrontUpToClash, IsResult, MayLeave, MayOwe, collision, success, unreadable, Content, TakesAtMost, bare, nothing, TakesInput, IsTaken, IsTooLong, lacking, rejection, Recorded, BreaksAt, Command, Grammar, HasNone, HasTwoMetadata, Misspells, Spells, envelopes_of, IsTakenWhole, TakenBy, IsAllOf, bytes, envelopes, schedule}
pub use Rattle.wal_run.specs.Commands.{command_of, whole_command}
pub use Rattle.wal_run.specs.Envelope.{all_envelopes}
unfoldable pub use Rattle.wal_run.specs.Envelope.{shard_text}
pub use Rattle.wal_run.specs.Fetching.{AnswersFirst, AnswersRequests, GoOn, StopsAt, answers_text, fetching}
pub use Rattle.wal_run.specs.Imaging.{room_of, room_behind, image_from, image_of, imaging}
pub use Rattle.wal_run.specs.Lines.{collision_text, short_text, malformed_text}
pub use Rattle.wal_run.specs.Recovering.{proof_of, recovering}
pub use Rattle.wal_run.specs.Replaying.{IsReport, replaying, stopped, unfinished}
pub use Rattle.wal_run.specs.SameText.{Place, SameText, line, SameFront, frame, IsPlaceOf, place_of}
pub use Rattle.wal_run.specs.Serving.{end_status, EndsServing, IsServiceResult, answering, at_start, serve_limit, own_nodes}
pub use Rattle.wal_run.specs.Unbundling.{unbundling}
pub use Rattle.wal_run.specs.Unpacking.{holding_text, contents_text, IsBrokenAt, unpacking}
pub use Rattle.wal_run.specs.Verifying.{ClaimsCome, verifying}
pub use Rattle.wal_run.specs.declared.finish.PutError.{PutError}
pub use Rattle.wal_run.specs.declared.finish.PutError.TheVariants.{Memory}
pub use Rattle.wal_run.specs.inside.Challenging.{DoesAnswer, IsAnswer}
pub use Rattle.wal_run.specs.inside.Command.{Told, collides, lacks, misreads, rejects, succeeds, recorded}
pub use Rattle.wal_run.specs.inside.Pieces.{GivesPiece, Stands, TakesFew, TakesStream}
pub use Rattle.wal_run.specs.inside.Reading.{outcome_status, outcome_text}
pub use Rattle.wal_run.specs.inside.Recovering.{Fits, recovered_status, recovered_text}
pub use Rattle.wal_run.specs.inside.Writing.{Does, Performs, finished, lost_sink, performed, wanted_memory, written, DoesTold, Finishes, PutsPiece, cut, out_of_memory, put_status}
