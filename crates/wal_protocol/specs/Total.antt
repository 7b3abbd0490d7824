-- What a step of the world needs from the crates below so that every event has one: their answers
-- are there, and what contradicts itself collides. Nothing here says how an answer is found, so
-- 'there' means that it is impossible that there is none.
use Rattle.std.specs.Prelude.{ℕ, ◌<◌, List, slice_index, All}
use Rattle.wal_event.specs.declared.event.Event.{Event}
use Rattle.wal_event.specs.declared.event.Event.TheVariants.{Write, Send, Read, Recover}
use Rattle.wal_event.specs.declared.event.Reply.{Reply}
use Rattle.wal_event.specs.declared.event.Reply.TheVariants as reply
use Rattle.wal_event.specs.declared.event.Schedule.{Schedule}
use Rattle.wal_event.specs.declared.line.Line.{Line}
use Rattle.wal_protocol.specs.State.{World}
use Rattle.wal_protocol.specs.Rules.{Rules}
use Rattle.wal_protocol.specs.Step.{Steps}
use Rattle.wal_protocol.specs.Run.{IsRun}

-- it is impossible that there is none
abbrev pub Possible : Type 0 → Type 0
Possible P = (P → ⊥) → ⊥

-- each number is a byte's; past the end of a list 0 is read
abbrev pub AreBytes : List ℕ → Type 0
AreBytes text = (place : ℕ) → slice_index text place < 256

-- what a reply carries is bytes
abbrev pub ReplyHasBytes : Reply → Type 0
ReplyHasBytes (reply.True side shard) = Unit {0}
ReplyHasBytes (reply.Bytes bytes) = AreBytes bytes

-- what an event carries is bytes, as is all that a schedule spells
abbrev pub HasBytes : Event → Type 0
HasBytes (Write blob to) = AreBytes blob
HasBytes (Send at shard bytes) = AreBytes bytes
HasBytes (Read id replies) = All ReplyHasBytes replies
HasBytes (Recover at shard axis id replies) = All ReplyHasBytes replies
HasBytes _ = Unit {0}

-- an event in a state has a step: a line, and a new state
abbrev pub HasStep : Rules → World → Event → Type 0
HasStep rules old event = (said : Line) × (new : World) × Steps rules old event said new

-- a schedule has a run
abbrev pub HasRun : Rules → Schedule → Type 0
HasRun rules schedule =
    (states : List World) × (lines : List Line) × IsRun rules schedule states lines
