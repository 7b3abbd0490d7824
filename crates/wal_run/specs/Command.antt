-- A COMMAND: how its input is spelled, and its results by status, each with what it shows and the
-- text that tells it.
use Rattle.std.specs.Prelude.{◌≡◌, ◌⊎◌, ℕ, ◌+◌, ◌<◌, ◌≤◌, List, [], ◌++◌, length, codes, Option}
use Rattle.std.specs.Prelude.{IfSome, Ok, Err, ⊤}
use Rattle.std.specs.Io.KnownBytes.{Consumes, IsAtEnd, Keeps}
use Rattle.wal_shape.specs.declared.metadata.BlobId.{BlobId}
use Rattle.wal_shape.specs.Shape.{most_bytes}
use Rattle.wal_shape.specs.Metadata.{BlobMetadata}
use Rattle.wal_tree.specs.Collision.{IsCollision}
use Rattle.wal_commit.specs.Identifier.{AreDigestedFor}
use Rattle.wal_frame.specs.Stream.{IsStream, IsMalformed}
use Rattle.wal_event.specs.declared.event.Schedule.{Schedule}
use Rattle.wal_reader.specs.Outcome.{AreFirstTwo, HasMetadata, IsMetadataIn}
use Rattle.wal_schedule.specs.Grammar.{IsRead}
use Rattle.wal_schedule.specs.declared.read.ScheduleError.{ScheduleError}
use Rattle.wal_schedule.specs.declared.read.ScheduleError.TheVariants.{NotJson, BadSchedule}
use Rattle.wal_schedule.specs.declared.read.ScheduleError.TheVariants.{TooMany, BadEvent, Memory}
use Rattle.wal_run.specs.Lines.{collision_text, malformed_text, number_text}
use Rattle.wal_run.specs.SameText.{Place, SameFront, line}

-- ---- how an input is spelled

-- how an input is spelled
pub data Grammar : Type 0 where
  -- any bytes
  bytes : Grammar
  -- a stream of envelopes
  envelopes : Grammar
  -- the same, with one metadata of this identifier among the payloads
  envelopes_of : BlobId → Grammar
  -- a schedule in JSON
  schedule : Grammar
  -- nothing is taken
  nothing : Grammar

-- payloads, and the one metadata of an identifier among them
pub record Recorded : Type 0 where
  pub payloads : List (List ℕ)
  pub metadata : BlobMetadata

-- what is spelled
abbrev pub Content : Grammar → Type 0
Content bytes = List ℕ
Content envelopes = List (List ℕ)
Content (envelopes_of id) = Recorded
Content schedule = Schedule
Content nothing = ⊤

-- the input spells this
abbrev pub Spells : (List ℕ → List ℕ) → (grammar : Grammar) → List ℕ → Content grammar → Type 0
Spells digest bytes input content = content ≡ input
Spells digest envelopes input payloads = IsStream payloads input
Spells digest (envelopes_of id) input content =
    IsStream content.payloads input × IsMetadataIn digest id.0 content.payloads content.metadata
Spells digest schedule input content = IsRead input (Ok content)
Spells digest nothing input content = input ≡ []

-- ---- an input that spells nothing, by the status that tells it

-- what is told of an input that is no schedule
abbrev pub IsFault : ScheduleError → List ℕ → Type 0
IsFault NotJson text = text ≡ codes "not json\n"
IsFault BadSchedule text = text ≡ codes "bad schedule\n"
IsFault TooMany text = text ≡ codes "too many events\n"
IsFault (BadEvent number) text = text ≡ number_text (codes "bad event ") number
IsFault Memory text = ⊥

-- no stream of envelopes: at this place no whole one begins
abbrev pub BreaksAt : List ℕ → List ℕ → Type 0
BreaksAt input text = (place : ℕ) × IsMalformed place input × (text ≡ malformed_text place)

-- 8: it is no stream, or no schedule
abbrev pub Misspells : Grammar → List ℕ → List ℕ → Type 0
Misspells envelopes input text = BreaksAt input text
Misspells (envelopes_of id) input text = BreaksAt input text
Misspells schedule input text =
    (fault : ScheduleError) × IsRead input (Err fault) × IsFault fault text
Misspells bytes input text = ⊥
Misspells nothing input text = ⊥

-- 4: no payload carries a metadata of the identifier
abbrev pub HasNone : (List ℕ → List ℕ) → Grammar → List ℕ → List ℕ → Type 0
HasNone digest (envelopes_of id) input text =
    (payloads : List (List ℕ)) × IsStream payloads input
    × ((metadata : BlobMetadata) → HasMetadata digest id.0 payloads metadata → ⊥)
    × (text ≡ codes "no metadata\n")
HasNone digest bytes input text = ⊥
HasNone digest envelopes input text = ⊥
HasNone digest schedule input text = ⊥
HasNone digest nothing input text = ⊥

-- 10: two metadata of the identifier differ, the first one and the first that differs from it, and
-- each text is digested for its own
abbrev pub HasTwoMetadata : (List ℕ → List ℕ) → Grammar → List ℕ → List ℕ → List ℕ → Type 0
HasTwoMetadata digest (envelopes_of id) input left right =
    (payloads : List (List ℕ)) × IsStream payloads input × (one : BlobMetadata)
    × (other : BlobMetadata)
    × AreFirstTwo digest id.0 payloads one other
    × AreDigestedFor digest one other left right
HasTwoMetadata digest bytes input left right = ⊥
HasTwoMetadata digest envelopes input left right = ⊥
HasTwoMetadata digest schedule input left right = ⊥
HasTwoMetadata digest nothing input left right = ⊥

-- ---- a command

-- what a command is: its limit, the grammar of its input, and the result of an input by each status
pub record Command : Type 1 where
  -- the most bytes of its input
  pub limit : ℕ
  pub grammar : Grammar
  -- 0: the answer
  pub Succeeds : Content grammar → List ℕ → Type 0
  -- 3: something recorded is false, as when a writer encoded wrongly, and this shows it
  pub Rejects : Content grammar → List ℕ → Type 0
  -- 4: something is lacking, which the text names
  pub Lacks : Content grammar → List ℕ → Type 0
  -- 8: what is spelled is no input of the command
  pub Misreads : Content grammar → List ℕ → Type 0
  -- 10: these two texts have one digest, and this stands before the line that tells them
  pub Collides : Content grammar → List ℕ → List ℕ → List ℕ → Type 0
  -- 5: what, if anything, may stand written when memory ran out: by `MayLeave` a prefix of whatever
  -- the result is
  pub Leaves : Content grammar → List ℕ → Type 0
  -- 7: what it may have been writing when the sink failed before the result was known: by `MayOwe`
  -- a prefix of the result up to a collision
  pub Owes : Content grammar → List ℕ → Type 0

-- the most bytes of an input that is a blob, and of a schedule
abbrev pub most_input : ℕ
most_input = most_bytes

-- a command without a result
abbrev pub bare : ℕ → Grammar → Command
bare limit grammar = record {
  limit = limit;
  grammar = grammar;
  Succeeds = λ content text. ⊥;
  Rejects = λ content text. ⊥;
  Lacks = λ content text. ⊥;
  Misreads = λ content text. ⊥;
  Collides = λ content left right front. ⊥;
  Leaves = λ content text. ⊥;
  Owes = λ content text. ⊥;
}

-- ---- its result for an input

-- the input spells something of which this is true
abbrev pub Spelled : (List ℕ → List ℕ) → (command : Command) → List ℕ
    → (Content command.grammar → Type 0)
    → Type 0
Spelled digest command input Is =
    (content : Content command.grammar) × Spells digest command.grammar input content × Is content

-- the input has an answer with this text
abbrev pub IsSuccess : (List ℕ → List ℕ) → Command → List ℕ → List ℕ → Type 0
IsSuccess digest command input text =
    Spelled digest command input (λ content. command.Succeeds content text)

-- the input has a rejection with this text
abbrev pub IsRejection : (List ℕ → List ℕ) → Command → List ℕ → List ℕ → Type 0
IsRejection digest command input text =
    Spelled digest command input (λ content. command.Rejects content text)

-- the input has not what the command needs, or more than it takes, and this text says what
abbrev pub IsLacking : (List ℕ → List ℕ) → Command → List ℕ → List ℕ → Type 0
IsLacking digest command input text =
    HasNone digest command.grammar input text
    ⊎ Spelled digest command input (λ content. command.Lacks content text)

-- the input is not spelled as the grammar says, or what it spells cannot be read, and this text
-- says so
abbrev pub IsUnreadable : (List ℕ → List ℕ) → Command → List ℕ → List ℕ → Type 0
IsUnreadable digest command input text =
    Misspells command.grammar input text
    ⊎ Spelled digest command input (λ content. command.Misreads content text)

-- two texts collide, and this stands before them: nothing if two metadata differ
abbrev pub ClashesBehind : (List ℕ → List ℕ) → List ℕ → List ℕ → Command → List ℕ → List ℕ → Type 0
ClashesBehind digest left right command input front =
    (HasTwoMetadata digest command.grammar input left right × (front ≡ []))
    ⊎ Spelled digest command input (λ content. command.Collides content left right front)

-- the text ends with the line of the two texts
pub record IsClash (digest : List ℕ → List ℕ) (left right : List ℕ)
    (command : Command) (input text : List ℕ) : Type 0 where
  pub front : List ℕ
  pub clashes : ClashesBehind digest left right command input front
  pub whole : text ≡ front ++ collision_text left right

-- THE STATUS AND THE TEXT for an input, a row for each status
pub data IsResult (digest : List ℕ → List ℕ) (command : Command) (input : List ℕ) : ℕ → List ℕ
    → Type 0 where
  success : (text : List ℕ) → IsSuccess digest command input text
      → IsResult digest command input 0 text
  rejection : (text : List ℕ) → IsRejection digest command input text
      → IsResult digest command input 3 text
  lacking : (text : List ℕ) → IsLacking digest command input text
      → IsResult digest command input 4 text
  unreadable : (text : List ℕ) → IsUnreadable digest command input text
      → IsResult digest command input 8 text
  collision : (left right text : List ℕ) → IsCollision digest left right
      → IsClash digest left right command input text
      → IsResult digest command input 10 text

-- the text is a prefix of the other
abbrev pub IsFrontOf : List ℕ → List ℕ → Type 0
IsFrontOf text whole = (rest : List ℕ) × (whole ≡ text ++ rest)

-- the same up to a collision: if both texts end with one, behind the same prefix, its two texts are
-- not compared
abbrev pub IsFrontUpToClash : Place → ℕ → List ℕ → List ℕ → Type 0
IsFrontUpToClash place status text whole =
    IsFrontOf text whole ⊎ ((status ≡ 10) × SameFront place text whole)

-- what it may leave written, which is a prefix of the result
abbrev pub MayLeave : (List ℕ → List ℕ) → Command → List ℕ → List ℕ → Type 0
MayLeave digest command input text =
    Spelled digest command input (λ content. command.Leaves content text)
    × ((status : ℕ) (whole : List ℕ) → IsResult digest command input status whole
    → IsFrontOf text whole)

-- what it may have been writing, which is a prefix of the result up to a collision
abbrev pub MayOwe : (List ℕ → List ℕ) → Command → List ℕ → List ℕ → Type 0
MayOwe digest command input text =
    Spelled digest command input (λ content. command.Owes content text)
    × ((status : ℕ) (whole : List ℕ) → IsResult digest command input status whole
    → IsFrontUpToClash line status text whole)

-- ---- how its input is taken

-- it takes its whole input before it answers
abbrev pub TakesInput : Grammar → Type 0
TakesInput nothing = ⊥
TakesInput bytes = ⊤
TakesInput envelopes = ⊤
TakesInput (envelopes_of id) = ⊤
TakesInput schedule = ⊤

-- all the bytes that the source has left, if it says which
abbrev pub IsAllOf : Option (List ℕ) → List ℕ → Type 0
IsAllOf left input = IfSome left (λ given. input ≡ given)

-- at most this many bytes were taken
abbrev pub TakesAtMost : Option (List ℕ) → Option (List ℕ) → ℕ → Type 0
TakesAtMost left after most = (taken : List ℕ) × Consumes left after taken × (length taken ≤ most)

-- the whole input was taken, which is within the limit
pub record IsTakenWhole (limit : ℕ) (left after : Option (List ℕ)) (input : List ℕ) : Type 0 where
  pub told : IsAllOf left input
  pub within : length input ≤ limit
  pub consumed : Consumes left after input
  pub ended : IsAtEnd after

-- this input was taken: the whole one, or nothing
abbrev pub TakenBy : Grammar → ℕ → Option (List ℕ) → Option (List ℕ) → List ℕ → Type 0
TakenBy nothing limit left after input = Keeps left after × (input ≡ [])
TakenBy bytes limit left after input = IsTakenWhole limit left after input
TakenBy envelopes limit left after input = IsTakenWhole limit left after input
TakenBy (envelopes_of id) limit left after input = IsTakenWhole limit left after input
TakenBy schedule limit left after input = IsTakenWhole limit left after input

-- this input was taken by the command: all of the source, or nothing
abbrev pub IsTaken : Command → Option (List ℕ) → Option (List ℕ) → List ℕ → Type 0
IsTaken command left after input = TakenBy command.grammar command.limit left after input

-- the source has more bytes than the limit, of which one more than the limit were taken
pub record IsTooLong (command : Command) (left after : Option (List ℕ)) : Type 0 where
  pub takes : TakesInput command.grammar
  pub input : List ℕ
  pub told : IsAllOf left input
  pub past : command.limit < length input
  pub taken : List ℕ
  pub consumed : Consumes left after taken
  pub count : length taken ≡ command.limit + 1
