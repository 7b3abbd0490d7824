-- What the proofs of this crate cite from elsewhere, and of its own definitions, handed on from one place. Declares nothing.
pub use Rattle.std.proofs.Common.{◌≡◌, ℕ, Bool, List, Option, Some, None, Result, Ok, inl, inr, refl, ◌+◌, ◌-◌, ◌≤◌, true, false, cond, [], ◌∷◌, ◌++◌, length, Err, All, sym, ◌∙◌, append-nil, arith, ◌≢◌, nat_lt, ap, subst, ◌<◌, zero, suc, get_or, take, drop, append_assoc, length-append, not, nat_eq, eq-eqb, ◌^◌, IsSome, unwrap_or, ◌⊎◌, ⊎_elim, max, T, map}
pub use Rattle.std.proofs.lemmas.Bool.Decides.{nat_tests}
pub use Rattle.std.proofs.lemmas.Bool.{false≢true, lt-ltb, le-ltb, eqb-true, eqb-false, cases_lt, ltb-true}
pub use Rattle.std.proofs.lemmas.List.{take-append-drop, set-set, get_or-set_same, flat_map_more}
pub use Rattle.std.proofs.lemmas.List.Elements.{filter-append, Contains-push, Contains-append_left, All-pop}
pub use Rattle.std.proofs.lemmas.List.FromFn.{get_or-range_with_len, length-range_with_len, length-map-range_with_len}
pub use Rattle.std.proofs.lemmas.List.Sums.{fold_push, sum_by-append}
pub use Rattle.std.specs.List.{flat_map, range_with_len, AllByRecursion}
pub use Rattle.std.specs.Ordering.{eq_by_cmp, is_eq, match_ordering}
pub use Rattle.std.specs.Prelude.{sum_by, IfSome, ⊤, is_some}
pub use Rattle.wal_event.specs.declared.event.Event.{Event}
pub use Rattle.wal_event.specs.declared.line.Line.{Line}
pub use Rattle.wal_frame.proofs.FrameLaws.{frame_is, read_again}
pub use Rattle.wal_frame.specs.Frame.{Frame, Answer, Clash, envelope, Read, Symbol, Metadata, Sliver, Proof, IsFrame, frame_text, metadata_frame, sliver_frame, Opening, Ack, Attest, Forget, RegisterEntry, AckEntry, AttestEntry, IsId}
pub use Rattle.wal_frame.specs.Reading.{read_of}
pub use Rattle.wal_frame.specs.Stored.{stored_bytes}
pub use Rattle.wal_frame.specs.declared.frame.FrameError.{FrameError}
pub use Rattle.wal_ledger.proofs.Handover.{until_push, history_of-epoch}
pub use Rattle.wal_ledger.proofs.HandoverEntries.{is_plain, plain_stays, entry_in, Owned, stays, grows, anew, owned}
pub use Rattle.wal_ledger.proofs.RowsPlace.{id_itself, id_same}
pub use Rattle.wal_ledger.specs.Answers.{Claimed, Claims, acked, claim_of, MayRegister, MayClaim, IsOpen}
pub use Rattle.wal_ledger.specs.Ledger.{Log, is_moving, owners_of, LedgerState, reading, owners_at, same_node, takes_in, until_of, own_entries, is_live, writing, until_among, until_in, signer_count, entered, names, History, history_after, signers, IsInvalid}
pub use Rattle.wal_ledger.specs.Shards.{committee_size, quorum_size}
pub use Rattle.wal_ledger.specs.declared.answers.AckAnswer.{AckAnswer}
pub use Rattle.wal_ledger.specs.declared.answers.AttestAnswer.{AttestAnswer}
pub use Rattle.wal_ledger.specs.declared.answers.RegisterAnswer.{RegisterAnswer}
pub use Rattle.wal_ledger.specs.declared.entry.Body.{Body}
pub use Rattle.wal_ledger.specs.declared.entry.Body.TheVariants.{Register}
pub use Rattle.wal_ledger.specs.declared.entry.Entry.{Entry}
pub use Rattle.wal_ledger.specs.declared.entry.Kind.{Kind}
pub use Rattle.wal_ledger.specs.declared.entry.Kind.TheVariants.{Holds, Denies}
pub use Rattle.wal_protocol.specs.Run.{GoesOn, is_collision, empty_committee}
pub use Rattle.wal_protocol.specs.State.{World, Committee, side_of, writing_side, is_correct, contents_of, held, keeps}
unfoldable pub use Rattle.wal_protocol.specs.State.{with_contents}
pub use Rattle.wal_protocol.specs.Step.{Steps, MayPost, Declines, ClaimStep}
pub use Rattle.wal_serve.proofs.AnswerLaws.{put_row, read_stops}
pub use Rattle.wal_serve.proofs.RoomLaws.{enough, asks}
pub use Rattle.wal_serve.specs.Answers.{IsReplyOutcome, AnswersRequest, AnswersRead, AnswersFrame, AnswersPut, AnswersEntry, AnswersForget, IsReplied}
pub use Rattle.wal_serve.specs.Reply.{reply, done, refused, put_reply, overlong, reply_text, refusal_reply, ack_reply}
pub use Rattle.wal_serve.specs.Requests.{IsPutRequest, Forgets, forgotten, kept, ClaimEntered, Vouched, unbacked, asked, Entered, of_committee, of_none, Registered}
pub use Rattle.wal_serve.specs.Room.{desk_room, AsksOnly}
pub use Rattle.wal_serve.specs.Serving.{Replies, looked_at, read_past, Served, none, more, Serves}
pub use Rattle.wal_serve.specs.State.{ServedState, holding, SamePlace, named, with_ledger}
pub use Rattle.wal_shape.specs.Identifiers.{id_cmp, id_eq}
pub use Rattle.wal_shape.specs.Owners.{node_of, among}
pub use Rattle.wal_shape.specs.Part.{sliver_part}
pub use Rattle.wal_shape.specs.declared.axis.Axis.{Axis}
pub use Rattle.wal_shape.specs.declared.axis.Side.TheVariants.{Now, Next}
pub use Rattle.wal_shape.specs.declared.metadata.BlobId.{BlobId}
pub use Rattle.wal_shape.specs.declared.part.Part.{Part}
pub use Rattle.wal_shape.specs.declared.text.MetaClash.{MetaClash}
pub use Rattle.wal_shard.proofs.HeldLaws.{own_metadata, beside, beside_proof, verified_short, sliver_then, proof_then}
pub use Rattle.wal_shard.specs.Holding.{OpeningReply, SymbolReplies, given, not_held, no_shard, HoldsMetadata, read_reply_of, IsSound, metadata_reply, payload_if, proof_reply, has_proof}
pub use Rattle.wal_shard.specs.Putting.{CanBePut, IsAccepted, Puts, PutsOrWants, put_id, put_part, Verifies, IsHeldIn, ShowsTexts, PutDesk}
pub use Rattle.wal_shard.specs.State.{desk, desk_of, ShardState}
pub use Rattle.wal_shard.specs.Vouching.{without_slivers, backs, Vouches, MayForget}
pub use Rattle.wal_shard.specs.declared.answers.AckRefusal.{AckRefusal}
pub use Rattle.wal_shard.specs.declared.answers.PutAnswer.{PutAnswer}
pub use Rattle.wal_store.specs.Answer.{HasRoom}
pub use Rattle.wal_store.specs.Contents.{Contents, parts_at, with_bytes, without_part, part_at, free_of, needed_for, cost}
pub use Rattle.wal_store.specs.Parts.{pages_for, Parts, with_part, part_of, no_parts, part_cost, cost_of}
pub use Rattle.wal_theorem.specs.Instance.{rules_of, SymbolReply, silent}
pub use Rattle.wal_served.specs.Local.{about_read, regarding, AlikeAt, RoomFor, part_pages, asked_entries, cost_with, Turn, turns, bytes_of, frames_of, clash_of, Chooses, left_of, tells, tells_entry, stored_pages, made_entries, ServesWhatIsLeft, LeavesAlike, RestsOn, ReadsRestOn, entry_payloads, sliver_payload, pages_of, kept_payloads, Rebuilds, about, pages_in, entries_in, asks_entry, AlikeLedgers, HasNothing, entry_frame, frame_payload, IsPlaced, AnswersAlike, AnswersWithRoom, WantsForMore}
pub use Rattle.wal_served.specs.Steps.{world_of, IsDesk, an_event, send_frame, Does, TellsWant, Meaning, own_entry, no_event, meaning, Stepped, AreSteps, Exchange, exchanges, event_if, events_of, TellsClash, AreOf, nothing, with_next, without_next, StopsBy, IsRunTo, IsServedRun, AreServedRuns, EndsBy, IsReached, others, alone, entry_of, frame_of, answer_text, AsksFor, by_metadata, of_nothing, RepliesTruly, IsTold, IsWant, IsRefused, read_meaning}
