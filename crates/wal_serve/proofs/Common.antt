-- What the proofs of this crate cite from elsewhere, and of its own definitions, handed on from one place. Declares nothing.
pub use Rattle.std.proofs.Common.{◌≡◌, ℕ, ◌+◌, ◌-◌, ◌^◌, ◌<◌, ◌≤◌, List, [], ◌∷◌, ◌++◌, length, get_or, take, drop, Option, Some, None, refl, sym, ap, subst, ◌∙◌, append_assoc, append-nil, arith, Bool, true, Result, Ok, Err, false, inl, inr, ◌⊎◌, true≢false, ◌*◌, ⊎_elim, rules}
pub use Rattle.std.proofs.KnownBytes.{Consumes-trans, Consumes-nil, Appends-trans, Appends-nil, Consumes-kept}
pub use Rattle.std.proofs.Math.Seq.{take-append-add, take-take, take_all, length-take-le}
pub use Rattle.std.proofs.lemmas.Bool.{false≢true, cases_lt}
pub use Rattle.std.proofs.lemmas.Grind.{flat_map-append}
pub use Rattle.std.proofs.lemmas.List.{length-append, length-drop, nil_from_length, take_at}
pub use Rattle.std.specs.Io.KnownBytes.{Consumes, Appends, IsAtEnd}
pub use Rattle.std.specs.Prelude.{⊤, is_some}
pub use Rattle.wal_frame.proofs.StreamLaws.{head_parts, stream_grows, envelope_read}
pub use Rattle.wal_frame.specs.Frame.{envelope, Frame, Ack, Attest, RegisterEntry, AckEntry, AttestEntry, IsFrame, frame_text, Metadata, Sliver, Proof, Read, Symbol, Forget, metadata_kind, metadata_frame}
pub use Rattle.wal_frame.specs.Front.{IsPart}
pub use Rattle.wal_frame.specs.Reading.{read_of}
pub use Rattle.wal_frame.specs.Shown.{frame_shown}
pub use Rattle.wal_frame.specs.Stream.{size_in, IsPayload, IsStream, IsMalformed}
pub use Rattle.wal_frame.specs.declared.frame.FrameError.{FrameError}
pub use Rattle.wal_ledger.specs.Ledger.{Log, LedgerState, reading, owners_at, owners_of, entered, takes_in}
pub use Rattle.wal_ledger.specs.Shards.{committee_size}
pub use Rattle.wal_ledger.specs.declared.answers.RegisterAnswer.{RegisterAnswer}
pub use Rattle.wal_ledger.specs.declared.entry.Kind.{Kind}
pub use Rattle.wal_ledger.specs.declared.entry.Kind.TheVariants.{Holds, Denies}
pub use Rattle.wal_shape.specs.Spelling.{number_text, proof_text}
pub use Rattle.wal_shape.specs.declared.axis.Axis.{Axis}
pub use Rattle.wal_shape.specs.declared.metadata.BlobId.{BlobId}
pub use Rattle.wal_shape.specs.declared.text.MetaClash.{MetaClash}
pub use Rattle.wal_shard.proofs.Sizes.{bad_proof_most, sliver_most, columns_most}
pub use Rattle.wal_shard.specs.Holding.{OpeningReply, given, not_held, SymbolReplies, metadata_reply, payload_if, primary_reply, proof_reply, read_reply_of}
pub use Rattle.wal_shard.specs.Putting.{PutDesk, PutsOrWants, CanBePut, ShowsTexts}
pub use Rattle.wal_shard.specs.Replying.{WritesReply, room_of}
pub use Rattle.wal_shard.specs.State.{desk, ShardState, with_contents}
pub use Rattle.wal_shard.specs.declared.answers.PutAnswer.{PutAnswer}
pub use Rattle.wal_store.specs.Contents.{Contents, parts_at}
pub use Rattle.wal_store.specs.Parts.{Parts}
pub use Rattle.wal_serve.specs.Answers.{AnswersRequest, AnswersEntry, AnswersFrame, AnswersRead, IsReplyOutcome, AnswersPut, IsReplied, AnswersForget}
pub use Rattle.wal_serve.specs.Determined.{AnswersOnce, SameFrames, HasOneServing, SameEnd, is_collision}
pub use Rattle.wal_serve.specs.Reply.{clash_text, put_reply, done, malformed, no_request, overlong, reply_text, outcome_text, clash_in, IsRegisterReply, no_memory, refused, no_shard, refusal_reply}
pub use Rattle.wal_serve.specs.Requests.{ClaimEntered, Entered, Vouched, asked, of_committee, of_none, unbacked, Forgets, Registered, forgotten}
pub use Rattle.wal_serve.specs.Saying.{sent}
pub use Rattle.wal_serve.specs.Serving.{Table, Replies, Served, none, more, Serves, BreaksOff, Wrote, IsServed, EndsAt, EndsAtKnown, looked_at, read_past, NeverWants}
pub use Rattle.wal_serve.specs.State.{ServedState, named, with_ledger, holding}
pub use Rattle.wal_serve.specs.declared.envelopes.Lack.{Lack}
pub use Rattle.wal_serve.specs.declared.reply.Reply.{Reply}
pub use Rattle.wal_serve.specs.declared.serving.ServeEnd.{ServeEnd}
pub use Rattle.wal_serve.specs.declared.serving.ServeEnd.TheVariants.{WriteFault, Collision, Done, Malformed, TooLong}
pub use Rattle.wal_serve.specs.declared.taking.Took.{Took}
pub use Rattle.wal_serve.specs.inside.Determined.{IsSingle, SameAnswer}
pub use Rattle.wal_serve.specs.inside.Envelopes.{Lacks, lack_of, IsHead, IsEnvelope, nothing, wrong, cut, too_long, failed}
pub use Rattle.wal_serve.specs.inside.Payload.{PayloadRoom}
pub use Rattle.wal_serve.specs.inside.Serving.{StopsWith, IsServing, RepliesInto, end_without, AnswersInto}
pub use Rattle.wal_serve.specs.inside.Session.{Stays, Row, served}
pub use Rattle.wal_serve.specs.inside.Taking.{Takes, whole, ended}
