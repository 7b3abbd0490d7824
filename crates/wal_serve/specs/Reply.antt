-- Replies: a code and two numbers, and what each answer of the shard and of the ledger is as a
-- reply.
use Rattle.std.specs.Prelude.{◌≡◌, ℕ, List, Option, Some, None, Result, Ok, Err}
use Rattle.wal_shape.specs.declared.text.MetaClash.{MetaClash}
use Rattle.wal_frame.specs.declared.frame.FrameError.{FrameError}
use Rattle.wal_frame.specs.declared.frame.FrameError.TheVariants.{Truncated, BadKind, BadField}
use Rattle.wal_frame.specs.declared.frame.FrameError.TheVariants.{Trailing}
use Rattle.wal_frame.specs.Frame.{Answer, Clash, frame_text}
use Rattle.wal_ledger.specs.declared.answers.RegisterAnswer.{RegisterAnswer}
use Rattle.wal_ledger.specs.declared.answers.RegisterAnswer.TheVariants as registering
use Rattle.wal_ledger.specs.declared.answers.AckAnswer.{AckAnswer}
use Rattle.wal_ledger.specs.declared.answers.AckAnswer.TheVariants as acking
use Rattle.wal_ledger.specs.declared.answers.AttestAnswer.{AttestAnswer}
use Rattle.wal_ledger.specs.declared.answers.AttestAnswer.TheVariants as attesting
use Rattle.wal_shard.specs.declared.answers.PutAnswer.{PutAnswer}
use Rattle.wal_shard.specs.declared.answers.PutAnswer.TheVariants as putting
use Rattle.wal_shard.specs.declared.answers.AckRefusal.{AckRefusal}
use Rattle.wal_shard.specs.declared.answers.AckRefusal.TheVariants as refusing
use Rattle.wal_serve.specs.declared.reply.Reply.{Reply}

-- a reply of this code and these numbers
abbrev pub reply : ℕ → ℕ → ℕ → Reply
reply code first second = record { code = code; a = first; b = second }

-- what was asked is done; a is the resulting `until`, or the number of frames, or 0
abbrev pub done : ℕ → Reply
done number = reply 0 number 0

-- a refusal without numbers
abbrev pub refused : ℕ → Reply
refused code = reply code 0 0

-- the shard's keep had no memory
abbrev pub no_memory : Reply
no_memory = refused 7

-- a payload that is no frame, by its first fault
abbrev pub malformed : FrameError → Reply
malformed Truncated = reply 9 1 0
malformed BadKind = reply 9 2 0
malformed (BadField place) = reply 9 3 place
malformed Trailing = reply 9 4 0

-- the refusal of a frame that is no request
abbrev pub no_request : Reply
no_request = reply 9 5 0

-- the refusal of an entry of a shard that the committee lacks
abbrev pub no_shard : Reply
no_shard = reply 9 6 0

-- the refusal of a payload that is longer than the desk's room
abbrev pub overlong : Reply
overlong = reply 9 7 0

-- what `put` answered: a reply, or two texts of one digest
abbrev pub put_reply : PutAnswer → Result Reply MetaClash
put_reply putting.Stored = Ok (done 0)
put_reply putting.Held = Ok (refused 11)
put_reply putting.Unregistered = Ok (refused 1)
put_reply putting.NoMetadata = Ok (refused 3)
put_reply putting.Unverified = Ok (refused 2)
put_reply (putting.OtherMetadata clash) = Err clash
put_reply (putting.Full needed free) = Ok (reply 6 needed free)
put_reply putting.Memory = Ok no_memory

-- why the shard neither acknowledges nor attests
abbrev pub refusal_reply : AckRefusal → Reply
refusal_reply refusing.Unregistered = refused 1
refusal_reply refusing.Expires = refused 8
refusal_reply refusing.Declined = refused 5

-- what the ledger's `ack` answered
abbrev pub ack_reply : AckAnswer → Reply
ack_reply acking.Unregistered = refused 1
ack_reply acking.Expires = refused 8
ack_reply acking.NoRoom = refused 10
ack_reply acking.Already = refused 12
ack_reply (acking.Counted count) = reply 13 count 0
ack_reply (acking.Certified count) = reply 14 count 0

-- what the ledger's `attest` answered
abbrev pub attest_reply : AttestAnswer → Reply
attest_reply attesting.Unregistered = refused 1
attest_reply attesting.Expires = refused 8
attest_reply attesting.NoRoom = refused 10
attest_reply attesting.Already = refused 12
attest_reply (attesting.Counted count) = reply 13 count 0
attest_reply (attesting.Invalid count) = reply 14 count 0

-- what the ledger's `register` answered while its epoch isn't changing
abbrev pub IsRegisterReply : RegisterAnswer → Reply → Type 0
IsRegisterReply (registering.Registered until) replied = replied ≡ done until
IsRegisterReply registering.Past replied = replied ≡ refused 15
IsRegisterReply registering.NoRoom replied = replied ≡ refused 10
IsRegisterReply registering.MovingExtension replied = ⊥

-- a reply as a frame
abbrev pub reply_text : Reply → List ℕ
reply_text answer = frame_text (Answer answer.code answer.a answer.b)

-- the frame with two texts of one digest
abbrev pub clash_text : MetaClash → List ℕ
clash_text clash = frame_text (Clash clash.left clash.right)

-- the one frame of the answer
abbrev pub outcome_text : Result Reply MetaClash → List ℕ
outcome_text (Ok answer) = reply_text answer
outcome_text (Err clash) = clash_text clash

-- the two texts of one digest, which end serving, if there are any
abbrev pub clash_in : Result Reply MetaClash → Option MetaClash
clash_in (Ok answer) = None
clash_in (Err clash) = Some clash
