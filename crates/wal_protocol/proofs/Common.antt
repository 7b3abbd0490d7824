-- What the proofs of this crate cite from elsewhere, and of its own definitions, handed on from one place. Declares nothing.
pub use Rattle.std.proofs.Common.{◌≡◌, ℕ, ◌≤◌, false, List, Option, sym, ap, subst, ◌∙◌, arith, zero, suc, ◌+◌, ◌<◌, [], ◌∷◌, length, get_or, Bool, true, cond, not, ◌&&◌, nat_le, Contains, inl, inr, refl, is_some, Some, None, ◌⊎◌, is_ok, Result, Ok, Err, All, ⊎_elim, true≢false, ◌-◌, ◌++◌, ◌||◌, IsTrue, map, unwrap_or}
pub use Rattle.std.proofs.lemmas.Bool.Decides.{nat_tests}
pub use Rattle.std.proofs.lemmas.Bool.{and_parts, and_from, cases_eq, leb-true, leb-false, not-true, or_left, or_right, cases_lt, ltb-true, false≢true}
pub use Rattle.std.proofs.lemmas.Cmp.{eq_by_cmp_equiv}
pub use Rattle.std.proofs.lemmas.List.{length-map, get_or-set_same, get_or-set_other, set_past, length-set}
pub use Rattle.std.proofs.lemmas.List.Elements.{Contains-append_left, Contains-append_right, All-push, All-weaker, All-nil, All-cons, All-head, All-tail, All-append, All-map, Contains-get_or}
pub use Rattle.std.proofs.lemmas.List.FromFn.{length-map-range_with_len, get_or-map-range_with_len}
pub use Rattle.std.specs.FinMap.{FinMap, get, empty as empty_map, get-empty, get-insert}
pub use Rattle.std.specs.List.{flat_map, AllByRecursion, range_with_len}
pub use Rattle.wal_event.specs.Event.{IsEventWithin, IsSchedule}
pub use Rattle.wal_event.specs.declared.event.Event.{Event}
pub use Rattle.wal_event.specs.declared.event.Event.TheVariants.{Attest, Read, Recover, Write, Send, Certificate, Register, Ack, Forget, Begin, Ready, Finish, Holders}
pub use Rattle.wal_event.specs.declared.event.Reply.{Reply}
pub use Rattle.wal_event.specs.declared.event.Schedule.{Schedule}
pub use Rattle.wal_event.specs.declared.line.AckWord.{AckWord}
pub use Rattle.wal_event.specs.declared.line.AttestWord.{AttestWord}
pub use Rattle.wal_event.specs.declared.line.BeginWord.{BeginWord}
pub use Rattle.wal_event.specs.declared.line.CertificateWord.{CertificateWord}
pub use Rattle.wal_event.specs.declared.line.FinishWord.{FinishWord}
pub use Rattle.wal_event.specs.declared.line.ForgetWord.{ForgetWord}
pub use Rattle.wal_event.specs.declared.line.Line.{Line}
pub use Rattle.wal_event.specs.declared.line.ReadWord.{ReadWord}
pub use Rattle.wal_event.specs.declared.line.ReadyWord.{ReadyWord}
pub use Rattle.wal_event.specs.declared.line.RecoverWord.{RecoverWord}
pub use Rattle.wal_event.specs.declared.line.RegisterWord.{RegisterWord}
pub use Rattle.wal_event.specs.declared.line.SendWord.{SendWord}
pub use Rattle.wal_event.specs.declared.line.WriteWord.{WriteWord}
pub use Rattle.wal_evidence.specs.declared.evidence.Evidence.{Evidence}
pub use Rattle.wal_evidence.specs.declared.evidence.Verdict.{Verdict}
pub use Rattle.wal_frame.specs.Frame.{Frame}
pub use Rattle.wal_ledger.proofs.HandoverOrder.{live_same, claim_plain, ClaimsFor, register_enters, claim_enters, ready_enters, Enters}
pub use Rattle.wal_ledger.proofs.HandoverTurns.{certified_before, Begun, begun, Finished, finished, orderly_new}
pub use Rattle.wal_ledger.proofs.Order.{ids_total}
pub use Rattle.wal_ledger.proofs.Quorums.{quorum_correct, count_below-mono, count_below-some, count_below-among}
pub use Rattle.wal_ledger.specs.Answers.{IsOpen, is_moving_extension, MayClaim, claim_of}
pub use Rattle.wal_ledger.specs.Ledger.{Log, signer_count, is_moving, writing, is_live, signers, home_of, owners_at, same_node, Phase, phase, phase_after, is_begin, entered, reading, IsCertified, MustHold, ready_shards, ready_total, until_of, owners_of}
pub use Rattle.wal_ledger.specs.Shards.{quorum_size, count_below, committee_size}
pub use Rattle.wal_ledger.specs.declared.entry.Body.{Body}
pub use Rattle.wal_ledger.specs.declared.entry.Kind.{Kind}
pub use Rattle.wal_ledger.specs.declared.entry.Kind.TheVariants.{Holds, Denies}
pub use Rattle.wal_shape.specs.Identifiers.{id_cmp}
pub use Rattle.wal_shape.specs.Owners.{among, is_committee, has_neighbour, every_below, ascends_from}
pub use Rattle.wal_shape.specs.declared.axis.Axis.{Axis}
pub use Rattle.wal_shape.specs.declared.axis.Side.{Side}
pub use Rattle.wal_shape.specs.declared.axis.Side.TheVariants.{Now, Next}
pub use Rattle.wal_shape.specs.declared.metadata.BlobId.{BlobId}
pub use Rattle.wal_shape.specs.declared.part.Part.TheVariants.{Metadata, Primary, Secondary, Proof}
pub use Rattle.wal_shard.proofs.Changes.{same_id, changed_there, with_parts_changes, retained}
pub use Rattle.wal_shard.specs.Holding.{settled, has_proof, settled_by_slivers}
pub use Rattle.wal_shard.specs.Vouching.{backs, Vouches, without_dead, MayForget, without_slivers}
pub use Rattle.wal_shard.specs.declared.answers.PutAnswer.{PutAnswer}
pub use Rattle.wal_store.specs.Contents.{Contents, parts_at, without_part}
pub use Rattle.wal_store.specs.Parts.{Parts, part_of, no_parts, with_part}
pub use Rattle.wal_protocol.specs.Facts.{Facts, backed}
pub use Rattle.wal_protocol.specs.Rules.{Rules}
pub use Rattle.wal_protocol.specs.Run.{first_state, is_collision, Runs, IsRun, GoesOn, empty_committee}
pub use Rattle.wal_protocol.specs.Safe.{IsKept, HasRefuters, EachStep, IsCommitted, Hears, IsComplete, IsJust, IsSafe, HearsSettled, HearsSecondary, IsRecoveryComplete, Shows, Agree}
pub use Rattle.wal_protocol.specs.State.{World, side_of, is_present, writing_side, is_correct, settled_in, holders, Committee, contents_of, epoch_of, nobody, keeps, with_side, answered, verdict_of}
unfoldable pub use Rattle.wal_protocol.specs.State.{held, with_contents}
pub use Rattle.wal_protocol.specs.Step.{is_clash, CertificateStep, reply_payloads, read_payloads, IsReplyOf, AreReplies, PutsEach, is_carried_over, next_committee, after_dropping, RegisterStep, IsIgnored, MayPost, Declines, ClaimStep, AckStep, AttestStep, ForgetStep, BeginStep, HoldsAll, MayBeReady, IsUnready, ReadyStep, FinishStep, told_by, RecoveryRuns, Gains, Steps, letters, AgreesWithFirst, Differs, WriteStep, WriteCollides, SendStep, SendCollides, ReadStep, ReadCollides, two_metadata, other_answer, RecoverStep, RecoverCollides, ReadCompletes, stored_at, IsWrite}
pub use Rattle.wal_protocol.specs.Total.{Possible, AreBytes, ReplyHasBytes, HasBytes, HasStep, HasRun}
pub use Rattle.wal_protocol.specs.declared.first.First.{First}
pub use Rattle.wal_protocol.specs.declared.first.First.TheVariants.{Judged, Written}
pub use Rattle.wal_protocol.specs.inside.Laws.{Laws, AreAmong, IsAbove, AreAbove, AllSound, forgotten, Helped, IsSettledBy, IsDecidedBy}
