-- What the proofs of this crate cite from elsewhere, and of its own definitions, handed on from one place. Declares nothing.
pub use Rattle.std.proofs.Common.{⊎_elim, ◌≡◌, ℕ, ◌<◌, List, true, Option, Some, None, Result, Ok, Err, IfOk, OnOk, slice_index_or, length, refl, sym, ap, ◌∙◌, subst, ◌+◌, ◌^◌, [], ◌∷◌, ◌++◌, arith, length-append, append-nil, ◌≤◌, length-take, take, btree_set_len, is_some, Bool, false, nat_le, nat_lt, cond, ◌&&◌, not, nat_eq, map, drop, get_or, IsTrue, ◌↔◌, ◌≢◌, IfSome, IfNone, zero, suc, slice_set, OnErr, ◌⊎◌, inl, inr, take-append-drop, append_assoc, IsErrAnd, ◌-◌, ◌||◌, min, fold, sum_by, filter_map, option_map, option_to_list, unwrap_or, BTreeSet, ap₂, rules}
pub use Rattle.std.proofs.lemmas.Bool.{and_parts, leb-true, ltb-true, cases_eq}
pub use Rattle.std.proofs.lemmas.Grind.{flat_map-append}
pub use Rattle.std.proofs.lemmas.List.{drop_more, length-map, map-set, length-set, set-get_or, get_or-set_other, take_all, take_more}
pub use Rattle.std.proofs.lemmas.Result.{IfOk-weaker}
pub use Rattle.std.specs.BTreeMap.{IsOrdered, BTreeMap, get_by, insert_entry}
pub use Rattle.std.specs.BTreeSet.{IsFromIterResult, IsOrdered as IsOrderedSet, Updates}
pub use Rattle.std.specs.Cmp.Lexicographic.{pointwise, texts_ties}
pub use Rattle.std.specs.FinMap.{FinMap, empty as no_entries, get as entry_of, contains_key, insert as with_entry, from_sorted, empty_of_len, entries-from_sorted, len-entries}
pub use Rattle.std.specs.List.{flat_map, AllByRecursion, range_with_len, cons_option, reduce}
pub use Rattle.std.specs.declared.alloc.AllocError.{AllocError}
pub use Rattle.wal_commit.specs.Identifier.{IsIdentifierOf, Commits}
pub use Rattle.wal_event.specs.Event.{IsSchedule, IsEventWithin}
pub use Rattle.wal_event.specs.declared.event.Event.{Event}
pub use Rattle.wal_event.specs.declared.event.Reply.{Reply}
pub use Rattle.wal_event.specs.declared.event.Schedule.{Schedule}
pub use Rattle.wal_event.specs.declared.line.Line.{Line}
pub use Rattle.wal_event.specs.declared.line.ReadWord.TheVariants.{Bytes, Reject}
pub use Rattle.wal_frame.specs.Buffer.{Buffer}
pub use Rattle.wal_frame.specs.Frame.{Frame, IsFrame, envelope, frame_text}
pub use Rattle.wal_frame.specs.Shown.{frame_shown}
pub use Rattle.wal_frame.specs.Stream.{IsPayload, IsStream, Splits}
pub use Rattle.wal_ledger.proofs.Order.{ids_total}
pub use Rattle.wal_ledger.specs.Ledger.{Log, is_moving, LedgerState, entered, takes_in, owners_of, writing, is_live, same_node}
pub use Rattle.wal_ledger.specs.Shards.{committee_size, count_below}
pub use Rattle.wal_port.specs.Faults.{Rose}
pub use Rattle.wal_protocol.proofs.RunLaws.{runs_each, goes_on_push, last_push, runs_push, runs_stop}
pub use Rattle.wal_protocol.specs.Rules.{Rules}
pub use Rattle.wal_protocol.specs.Run.{first_state, is_collision, GoesOn, Runs}
pub use Rattle.wal_protocol.specs.State.{World, side_of, is_correct, contents_of, keeps, is_present, verdict_of, answered, nobody, settled_in, writing_side, Committee, with_side}
unfoldable pub use Rattle.wal_protocol.specs.State.{held, with_contents}
pub use Rattle.wal_protocol.specs.Step.{SendStep, SendCollides, Refused, read_payloads, reply_payloads, Steps, letters, AgreesWithFirst, HoldsAll, is_carried_over, next_committee, after_dropping, AreReplies, IsReplyOf, IsWrite, WriteCollides, WriteStep, stored_at, ReadStep, ReadCollides, two_metadata, other_answer, PutsEach, is_clash, RecoverStep, RecoverCollides, RecoveryRuns}
pub use Rattle.wal_protocol.specs.declared.first.First.{First}
pub use Rattle.wal_reader.specs.Outcome.{IsOutcome, HasEvidence, HasMetadata, IsMetadataIn}
pub use Rattle.wal_reader.specs.declared.outcome.Outcome.{Outcome}
pub use Rattle.wal_shape.specs.Identifiers.{id_cmp, id_eq}
pub use Rattle.wal_shape.specs.MetaRef.{metadata_shown}
pub use Rattle.wal_shape.specs.Metadata.{BlobMetadata, held_index}
pub use Rattle.wal_shape.specs.Owners.{among, ascends_from}
pub use Rattle.wal_shape.specs.Shape.{sliver_symbols, BlobShape}
pub use Rattle.wal_shape.specs.Spelling.{metadata_text}
pub use Rattle.wal_shape.specs.declared.axis.Axis.{Axis}
pub use Rattle.wal_shape.specs.declared.axis.Side.{Side}
pub use Rattle.wal_shape.specs.declared.axis.Side.TheVariants.{Now, Next}
pub use Rattle.wal_shape.specs.declared.metadata.BlobId.{BlobId}
pub use Rattle.wal_shape.specs.declared.shape.Format.{Format}
pub use Rattle.wal_shape.specs.declared.shape.Format.TheVariants.{One, Two}
pub use Rattle.wal_shape.specs.declared.text.Collision.{Collision}
pub use Rattle.wal_shard.specs.Holding.{HoldsMetadata, SymbolReplies, read_reply_of}
pub use Rattle.wal_shard.specs.Keeping.{kept_sliver, kept_proof}
pub use Rattle.wal_shard.specs.Putting.{PutsOrWants, CanBePut}
pub use Rattle.wal_shard.specs.Replying.{WritesReply, room_of}
pub use Rattle.wal_shard.specs.State.{desk, with_contents as with_held, ShardState, desk_of, IsOwnMetadata}
pub use Rattle.wal_shard.specs.Vouching.{without_dead, MayForget, without_slivers, backs}
pub use Rattle.wal_shard.specs.declared.answers.PutAnswer.{PutAnswer}
pub use Rattle.wal_shard.specs.declared.answers.PutAnswer.TheVariants.{Stored, Held, Unregistered, NoMetadata, Unverified, OtherMetadata, Full, Memory}
pub use Rattle.wal_store.specs.Contents.{part_at, Contents, parts_at, StoreState}
pub use Rattle.wal_store.specs.Parts.{Parts}
pub use Rattle.wal_theorem.proofs.Headline.{facts_start, facts_kept, run_safe, run_recovers}
pub use Rattle.wal_theorem.specs.Instance.{IsPutFrame, PutsFrame, rules_of, has_frames, is_bytes, SymbolReply, replies, ReadsTo, outcome_told, Knows, KnowsTwo, IsKnown, OwnOpeningsComeTo, silent, IsBackedBy}
pub use Rattle.wal_tree.specs.Collision.{IsCollision}
pub use Rattle.wal_writer.specs.Message.{Written, messages_of}
pub use Rattle.wal_world.specs.Summary.{IsSummary, IsSummed, certified_in, bytes_in, sliver_in, holders_in}
pub use Rattle.wal_world.specs.declared.books.Books.{Books}
pub use Rattle.wal_world.specs.declared.books.Books.TheVariants.{Serving, Moving}
pub use Rattle.wal_world.specs.declared.members.Members.{Members}
pub use Rattle.wal_world.specs.declared.network.Network.{Network}
pub use Rattle.wal_world.specs.declared.summary.Summary.{Summary}
pub use Rattle.wal_world.specs.declared.taken.Taken.{Taken}
pub use Rattle.wal_world.specs.declared.taken.Taken.TheVariants.{Word, Collision as Collided}
pub use Rattle.wal_world.specs.declared.tally.Tally.{Tally}
pub use Rattle.wal_world.specs.inside.Books.{ledger_of, faulty_on, AreBooks, IsBegun, IsFinished, books_with}
pub use Rattle.wal_world.specs.inside.Creating.{IsFirst, IsFresh}
pub use Rattle.wal_world.specs.inside.Knowing.{IsHeldMetadata, IsOnly, RecoversInWorld, AreKnown}
pub use Rattle.wal_world.specs.inside.Letters.{AreParts, PutsTo, SpellsPart, TellsClash, addressed, frame_in, letters_in, Continues, frame_read, IsStarted}
pub use Rattle.wal_world.specs.inside.Members.{members_of, with_members}
pub use Rattle.wal_world.specs.inside.Network.{AreShards, IsNetwork, shards_of, world_of, spare_of, contents_in, AreNext, IsShardAt, IsShardOf, dropped, shard_with, shards_with}
pub use Rattle.wal_world.specs.inside.Placed.{contents_at, LetsGo, Places, placed, opposite}
pub use Rattle.wal_world.specs.inside.Replies.{IsLike, IsCompared, CollidesOn, both_metadata, another_answer, IsTold, ReadsOn}
pub use Rattle.wal_world.specs.inside.Taken.{IsAnswered, IsTaken, Tells}
pub use Rattle.wal_world.specs.inside.Tally.{collision_in, IsTallied, IsTally, Counts}
