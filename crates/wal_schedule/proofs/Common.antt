-- What the proofs of this crate cite from elsewhere, and of its own definitions, handed on from one place. Declares nothing.
pub use Rattle.hex.proofs.HexLemmas.{decode_of-ok, decode_sized-ok, decode_sized-twice, decode_of-encode_lower, decode_sized-encode_lower}
pub use Rattle.hex.specs.Hex.{IsBytes, decode_of, decode_sized, encode_lower}
pub use Rattle.serde_json.proofs.Views.{items_len-items_view, members_len-members_view}
pub use Rattle.serde_json.specs.Data.{Data, Items, no_items, item, depth, items_depth, object, member, no_members}
pub use Rattle.serde_json.specs.Events.{items_len}
pub use Rattle.serde_json.specs.Find.{as_number, as_u64, get}
pub use Rattle.serde_json.specs.View.{items_of, items_view, view}
pub use Rattle.serde_json.specs.declared.value.Value.{Value}
pub use Rattle.std.proofs.Common.{◌≡◌, ℕ, suc, ◌+◌, ◌*◌, ◌≤◌, ◌&&◌, Bool, true, false, nat_le, nat_lt, List, [], ◌∷◌, length, codes, Option, None, Some, Ok, Err, Result, IfOk, IfSome, if◌then◌else◌, refl, sym, ◌∙◌, subst, arith, ◌<◌, map, IsTrue, ap, zero, ◌/◌, ◌%◌, ◌^◌, ◌++◌, get_or, drop, take, length-append, add-one}
pub use Rattle.std.proofs.Math.Nat.{max-le}
pub use Rattle.std.proofs.lemmas.Bool.{and_parts, leb-true, ltb-false, ltb-true, cond-false, le-leb, le-ltb, lt-ltb, cond-true, agree_below_at}
pub use Rattle.std.proofs.lemmas.List.{append_assoc, append-nil, map-append, map-id, drop_all, drop_more, length-map}
pub use Rattle.std.proofs.lemmas.List.FromFn.{map-range_with_len_more, length-map-range_with_len}
pub use Rattle.std.specs.List.{AllByRecursion, list_all, flat_map, range_with_len}
pub use Rattle.std.specs.Prelude.{bytes_eq, is_some, String, string_bytes}
pub use Rattle.std.specs.Result.{result_ok}
pub use Rattle.wal_commit.specs.Identifier.{IsIdentifierOf}
pub use Rattle.wal_event.specs.Event.{AreRepliesWithin, IsReply, IsSchedule, IsEventWithin, event_fits, replies_within, reply_within, within}
pub use Rattle.wal_event.specs.declared.event.Event.{Event}
pub use Rattle.wal_event.specs.declared.event.Event.TheVariants.{Register, Write, Send, Ack, Attest, Read, Recover, Forget, Begin, Ready, Finish, Certificate, Holders}
pub use Rattle.wal_event.specs.declared.event.Reply.{Reply}
pub use Rattle.wal_event.specs.declared.event.Schedule.{Schedule}
pub use Rattle.wal_shape.specs.Owners.{is_ascending, is_committee, are_owners, ascends_from, is_closed}
pub use Rattle.wal_shape.specs.Shape.{most_bytes, shard_count}
pub use Rattle.wal_shape.specs.declared.axis.Axis.{Axis}
pub use Rattle.wal_shape.specs.declared.axis.Axis.TheVariants.{Primary, Secondary}
pub use Rattle.wal_shape.specs.declared.axis.Side.{Side}
pub use Rattle.wal_shape.specs.declared.axis.Side.TheVariants.{Now, Next}
pub use Rattle.wal_shape.specs.declared.metadata.BlobId.{BlobId}
pub use Rattle.wal_shape.specs.declared.shape.Format.{Format}
pub use Rattle.wal_shape.specs.declared.shape.Format.TheVariants.{One, Two}
pub use Rattle.wal_schedule.specs.Grammar.{IsRead, bytes_reply_of, event_named, events_of, format_at, joined, later_named, objects_at, one_if_has, owners_at, parts_of, replies_at, replies_of, reply_of, schedule_with, true_reply_of, with_parts, all_objects}
unfoldable pub use Rattle.wal_schedule.specs.Grammar.{ack_of, attest_of, begin_of, certificate_of, event_of, finish_of, forget_of, head_of, holders_of, read_of, ready_of, recover_of, register_of, schedule_of, send_of, write_of}
pub use Rattle.wal_schedule.specs.Reading.{◌>>=◌, axis_at, bytes_at, given, id_at, items_at, list_at, shard_at, side_at, text_at, to_id, whole_at, whole_of, with_keys, numbers_of}
pub use Rattle.wal_schedule.specs.Sample.{AreBlobs, IsSample, blob_from, drawn, next_state, sample_with, asked_events, earlier_events, everyone, everyone_but, later_events, recovered_by, recovered_events, stored_events, truths}
unfoldable pub use Rattle.wal_schedule.specs.Sample.{state_after, state_before}
pub use Rattle.wal_schedule.specs.Writing.{HasBytes, HasReplyBytes, IsId, axis_data, event_data, format_data, number_data, reply_data, schedule_data, side_data}
pub use Rattle.wal_schedule.specs.declared.drawn.SampleBlob.{SampleBlob}
pub use Rattle.wal_schedule.specs.declared.read.Head.{Head}
pub use Rattle.wal_schedule.specs.declared.read.ScheduleError.{ScheduleError}
pub use Rattle.wal_schedule.specs.inside.Grammar.{IsHead, Tells, TellsEvents, after}
pub use Rattle.wal_schedule.specs.inside.Reading.{before}
