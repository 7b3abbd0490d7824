-- What serving does to a shard and its ledger, as steps of the world: what each payload is as an
-- event, and the state then.
use Rattle.std.specs.Prelude.{◌≡◌, ◌≢◌, ◌⊎◌, ℕ, ◌-◌, ◌<◌, ◌≤◌, Bool, false, cond, not, nat_eq}
use Rattle.std.specs.Prelude.{nat_lt, List, [], ◌∷◌, ◌++◌, length, take, filter, Option, Some, None}
use Rattle.std.specs.Prelude.{Result, Ok, Err, ⊤}
use Rattle.std.specs.List.{range_with_len, flat_map, Contains}
use Rattle.wal_shape.specs.declared.axis.Axis.{Axis}
use Rattle.wal_shape.specs.declared.axis.Side.TheVariants.{Now}
use Rattle.wal_shape.specs.declared.text.MetaClash.{MetaClash}
use Rattle.wal_shape.specs.Metadata.{BlobMetadata, held_index}
use Rattle.wal_shape.specs.Owners.{node_of}
use Rattle.wal_frame.specs.declared.frame.FrameError.{FrameError}
use Rattle.wal_event.specs.declared.event.Event.{Event}
use Rattle.wal_event.specs.declared.event.Event.TheVariants as event
use Rattle.wal_event.specs.declared.event.Reply.TheVariants as said_by
use Rattle.wal_event.specs.declared.line.Line.{Line}
use Rattle.wal_event.specs.declared.line.Line.TheVariants as of_line
use Rattle.wal_event.specs.declared.line.RegisterWord.{RegisterWord}
use Rattle.wal_event.specs.declared.line.RegisterWord.TheVariants as registering
use Rattle.wal_event.specs.declared.line.SendWord.{SendWord}
use Rattle.wal_event.specs.declared.line.SendWord.TheVariants as sending
use Rattle.wal_event.specs.declared.line.AckWord.{AckWord}
use Rattle.wal_event.specs.declared.line.AckWord.TheVariants as acking
use Rattle.wal_event.specs.declared.line.AttestWord.{AttestWord}
use Rattle.wal_event.specs.declared.line.AttestWord.TheVariants as attesting
use Rattle.wal_event.specs.declared.line.ForgetWord.{ForgetWord}
use Rattle.wal_event.specs.declared.line.ForgetWord.TheVariants as forgetting
use Rattle.wal_frame.specs.Frame.{Frame, Metadata, Sliver, Proof, Read, Symbol, Ack, Attest, Forget}
use Rattle.wal_frame.specs.Frame.{Answer, Clash, RegisterEntry, AckEntry, AttestEntry, frame_text}
use Rattle.wal_frame.specs.Reading.{read_of}
use Rattle.wal_frame.specs.Front.{BeginsNone}
use Rattle.wal_store.specs.Parts.{Parts}
use Rattle.wal_store.specs.Contents.{Contents, parts_at}
use Rattle.wal_ledger.specs.Shards.{committee_size}
use Rattle.wal_ledger.specs.Ledger.{is_moving, owners_of}
use Rattle.wal_shard.specs.Holding.{HoldsMetadata}
use Rattle.wal_protocol.specs.State.{Committee, World, nobody, with_contents}
use Rattle.wal_protocol.specs.Run.{empty_committee, is_collision, GoesOn, Runs}
use Rattle.wal_protocol.specs.Step.{Steps, reply_payloads, IsReplyOf}
use Rattle.wal_theorem.specs.Instance.{rules_of}
use Rattle.wal_theorem.specs.Lines.{EndsInCollision}
use Rattle.wal_serve.specs.State.{ServedState, SamePlace, named}
use Rattle.wal_serve.specs.Answers.{AnswersRequest, IsReplied}
use Rattle.wal_serve.specs.declared.serving.ServeEnd.{ServeEnd}
use Rattle.wal_serve.specs.declared.serving.ServeEnd.TheVariants as ending
use Rattle.wal_serve.specs.Serving.{Served, Serves, none, more}

-- ---- the world of a shard that serves

-- the shards of the committee but this one
abbrev pub others : ℕ → ℕ → List ℕ
others f own = filter (λ shard. not (nat_eq shard own)) (range_with_len 0 (committee_size f))

-- the committee in which this shard alone is correct, and holds this
abbrev pub alone : ℕ → ℕ → Contents → Committee
alone f own contents = with_contents (empty_committee f (others f own)) own contents

-- this world, but with the ledger that is served, and a committee in which only the shard that
-- serves is correct: the format in which blobs are written, whether each committee had few faulty
-- shards, and the first completed answers, which no request touches, are those of any world
abbrev pub world_of : World → ServedState → World
world_of world state = record world {
  log = state.ledger.log;
  now = alone state.shard.f state.shard.index state.shard.contents;
  next = nobody;
}

-- a shard of the committee of a ledger whose epoch isn't changing, with a node of its own for each
-- shard
pub record IsDesk (state : ServedState) : Type 0 where
  pub place : state.shard.index < committee_size state.shard.f
  pub faults : state.ledger.log.f ≡ state.shard.f
  pub serves : is_moving state.ledger.log ≡ false
  pub owners : (shard : ℕ) → shard < committee_size state.shard.f
      → node_of (owners_of Now state.ledger.log) shard ≡ shard

-- ---- what a payload is

-- an event of the world, an entry of the very shard that serves, which is none, or nothing that
-- changes anything
pub data Meaning : Type 0 where
  an_event : Event → Meaning
  own_entry : Meaning
  no_event : Meaning

-- an entry of a shard: an event if it is another one of the committee
abbrev pub entry_of : ℕ → ℕ → ℕ → Event → Meaning
entry_of f own shard claim =
    cond (nat_eq shard own) own_entry
    (cond (nat_lt shard (committee_size f)) (an_event claim) no_event)

-- what a frame is to a shard of a committee, by the payload that spells it: what is put is sent to
-- this shard, what is asked of it is its own acknowledgement, attestation or forgetting, and
-- entries are the ledger's
abbrev pub frame_meaning : ℕ → ℕ → List ℕ → Frame → Meaning
frame_meaning f own payload (Metadata metadata) = an_event (event.Send Now own payload)
frame_meaning f own payload (Sliver id axis index bytes) = an_event (event.Send Now own payload)
frame_meaning f own payload (Proof id proof) = an_event (event.Send Now own payload)
frame_meaning f own payload (Ack id) = an_event (event.Ack own (named id))
frame_meaning f own payload (Attest id) = an_event (event.Attest own (named id))
frame_meaning f own payload (Forget id) = an_event (event.Forget Now own (named id))
frame_meaning f own payload (RegisterEntry id until) = an_event (event.Register (named id) until)
frame_meaning f own payload (AckEntry shard id) = entry_of f own shard (event.Ack shard (named id))
frame_meaning f own payload (AttestEntry shard id) =
    entry_of f own shard (event.Attest shard (named id))
frame_meaning f own payload _ = no_event

-- what a payload is, by what was read in it
abbrev pub read_meaning : ℕ → ℕ → List ℕ → Result Frame FrameError → Meaning
read_meaning f own payload (Ok frame) = frame_meaning f own payload frame
read_meaning f own payload (Err fault) = no_event

-- what a payload is to the shard that serves
abbrev pub meaning : ℕ → ℕ → List ℕ → Meaning
meaning f own payload = read_meaning f own payload (read_of payload)

-- ---- what is done

-- an answer of this code and these numbers
abbrev pub answer_text : ℕ → ℕ → ℕ → List ℕ
answer_text code first second = frame_text (Answer code first second)

-- the answer to each word of a registration, which tells the resulting `until`; while the epoch is
-- not changing, none is refused for a change of the epoch
abbrev pub register_frame : RegisterWord → Option Frame
register_frame (registering.Until until) = Some (Answer 0 until 0)
register_frame registering.RefusedPast = Some (Answer 15 0 0)
register_frame registering.RefusedMoving = None

-- the answer to each word of a put; about a metadata, a sliver or a proof, a correct shard of a
-- committee that is there says no other
abbrev pub send_frame : SendWord → Option Frame
send_frame sending.Stored = Some (Answer 0 0 0)
send_frame sending.Unregistered = Some (Answer 1 0 0)
send_frame sending.Unverified = Some (Answer 2 0 0)
send_frame sending.NoMetadata = Some (Answer 3 0 0)
send_frame sending.Held = Some (Answer 11 0 0)
send_frame sending.Absent = None
send_frame sending.Ignored = None
send_frame sending.Malformed = None

-- the answer to each word of an acknowledgement, which tells how many shards count
abbrev pub ack_frame : AckWord → Option Frame
ack_frame acking.Unregistered = Some (Answer 1 0 0)
ack_frame acking.Declined = Some (Answer 5 0 0)
ack_frame acking.Expires = Some (Answer 8 0 0)
ack_frame acking.Already = Some (Answer 12 0 0)
ack_frame (acking.Counted count) = Some (Answer 13 count 0)
ack_frame (acking.Certified count) = Some (Answer 14 count 0)

-- the answer to each word of an attestation, which tells how many shards count
abbrev pub attest_frame : AttestWord → Option Frame
attest_frame attesting.Unregistered = Some (Answer 1 0 0)
attest_frame attesting.Declined = Some (Answer 5 0 0)
attest_frame attesting.Expires = Some (Answer 8 0 0)
attest_frame attesting.Already = Some (Answer 12 0 0)
attest_frame (attesting.Counted count) = Some (Answer 13 count 0)
attest_frame (attesting.Invalid count) = Some (Answer 14 count 0)

-- the answer to each word of forgetting
abbrev pub forget_frame : ForgetWord → Option Frame
forget_frame forgetting.Done = Some (Answer 0 0 0)
forget_frame forgetting.Declined = Some (Answer 5 0 0)
forget_frame forgetting.Absent = None
forget_frame forgetting.Ignored = None

-- the frame that belongs to a line of a shard that serves: the answer to its word, or the two texts
-- of a collision
abbrev pub frame_of : Line → Option Frame
frame_of (of_line.Register id word) = register_frame word
frame_of (of_line.Send shard word) = send_frame word
frame_of (of_line.Ack shard id word) = ack_frame word
frame_of (of_line.Attest shard id word) = attest_frame word
frame_of (of_line.Forget shard id word) = forget_frame word
frame_of (of_line.Collision left right) = Some (Clash left right)
frame_of _ = None

-- the answer is the one frame that belongs to this line
abbrev pub IsTold : Line → List (List ℕ) → Type 0
IsTold said frames =
    (frame : Frame) × (frame_of said ≡ Some frame) × (frames ≡ frame_text frame ∷ [])

-- a line is the collision of the two texts that end serving, and is no collision if serving goes on
abbrev pub TellsClash : Option MetaClash → Line → Type 0
TellsClash None said = is_collision said ≡ false
TellsClash (Some texts) said = said ≡ of_line.Collision texts.left texts.right

-- the world takes a step, whose line is what was answered; it is a collision exactly if two texts
-- end serving, and then of these texts
pub record TakesStep (digest : List ℕ → List ℕ) (old : ServedState) (happening : Event)
    (frames : List (List ℕ)) (clash : Option MetaClash) (new : ServedState) : Type 0 where
  pub line : Line
  pub steps : (world : World)
      → Steps (rules_of digest old.shard.f) (world_of world old) happening line (world_of world new)
  pub told : IsTold line frames
  pub ends : TellsClash clash line

-- the answers for want of room, be it of pages, of memory or of entries, which the world never
-- gives
abbrev pub IsWant : ℕ → Type 0
IsWant code = (code ≡ 6) ⊎ ((code ≡ 7) ⊎ (code ≡ 10))

-- there was no room, and nothing changed
pub record LacksRoom (old : ServedState) (frames : List (List ℕ))
    (clash : Option MetaClash) (new : ServedState) : Type 0 where
  pub code : ℕ
  pub a : ℕ
  pub b : ℕ
  pub wants : IsWant code
  pub told : frames ≡ answer_text code a b ∷ []
  pub goes_on : clash ≡ None
  pub same : new ≡ old

-- what is done, by what a payload is: an event is a step of the world, if there is room; an entry
-- of this very shard leaves the shard as it is; otherwise nothing changes
abbrev pub Does : (List ℕ → List ℕ) → ServedState → Meaning → List (List ℕ) → Option MetaClash
    → ServedState → Type 0
Does digest old (an_event happening) frames clash new =
    TakesStep digest old happening frames clash new ⊎ LacksRoom old frames clash new
Does digest old own_entry frames clash new = (new.shard ≡ old.shard) × (clash ≡ None)
Does digest old no_event frames clash new = (new ≡ old) × (clash ≡ None)

-- a shard asks for symbols of its sliver by the index that held metadata gives it; if neither
-- metadata nor proof is held, any index will do
pub data AsksFor (parts : Parts) (axis : Axis) (index shard : ℕ) : Type 0 where
  by_metadata : (metadata : BlobMetadata) → HoldsMetadata parts metadata
      → index ≡ held_index metadata.format metadata.f axis shard → AsksFor parts axis index shard
  of_nothing : parts.metadata ≡ None → parts.proof ≡ None → AsksFor parts axis index shard

-- a request for what is held gets the true reply of the world's shard, and then the number of its
-- frames
abbrev pub RepliesTruly : (List ℕ → List ℕ) → ServedState → Result Frame FrameError → List (List ℕ)
    → Option MetaClash → Type 0
RepliesTruly digest old (Ok (Read id)) frames clash =
    (world : World)
    → IsReplied
    (reply_payloads (rules_of digest old.shard.f) (world_of world old)
    (named id) (said_by.True Now old.shard.index))
    frames clash
RepliesTruly digest old (Ok (Symbol id axis index)) frames clash =
    (payloads : List (List ℕ)) × IsReplied payloads frames clash
    × ((world : World) (shard : ℕ)
    → AsksFor (parts_at old.shard.contents (named id)) axis index shard
    → IsReplyOf (rules_of digest old.shard.f) (world_of world old)
    (named id) axis shard (said_by.True Now old.shard.index) payloads)
RepliesTruly digest old _ frames clash = ⊤

-- the answers after which nothing has changed: want of room, and no request
abbrev pub IsRefused : ℕ → Type 0
IsRefused code = (code ≡ 9) ⊎ IsWant code

-- WHAT A PAYLOAD DOES that was looked at: its answer, and what that is in the world
pub record Stepped (digest : List ℕ → List ℕ) (may_want : Bool)
    (old : ServedState) (payload : List ℕ) (frames : List (List ℕ))
    (clash : Option MetaClash) (new : ServedState) : Type 0 where
  pub answers : AnswersRequest digest may_want old payload frames clash new
  pub does : Does digest old (meaning old.shard.f old.shard.index payload) frames clash new
  pub replies : RepliesTruly digest old (read_of payload) frames clash
  pub refused : (code first second : ℕ) → frames ≡ answer_text code first second ∷ []
      → IsRefused code → new ≡ old
  pub place : SamePlace old.shard new.shard

-- EVERY REQUEST: what the table of requests has for a payload is this, if each shard has a node of
-- its own and the epoch isn't changing; both are still so afterwards
abbrev pub EveryRequest : (List ℕ → List ℕ) → Type 0
EveryRequest digest =
    (may_want : Bool) (old : ServedState) (payload : List ℕ)
    (frames : List (List ℕ)) (clash : Option MetaClash) (new : ServedState)
    → IsDesk old → AnswersRequest digest may_want old payload frames clash new
    → Stepped digest may_want old payload frames clash new × IsDesk new

-- WHAT SERVING DOES: the bytes are whole envelopes, and each payload did so in turn; one that is
-- longer than the room is no request, and changed nothing
abbrev pub AreSteps : (List ℕ → List ℕ) → Bool → ℕ → ServedState → List ℕ → List (List ℕ)
    → Option MetaClash → ServedState → Type 0
AreSteps digest may_want room fresh taken frames clash state =
    Served (Stepped digest may_want) room fresh taken frames clash state

-- ---- as a run of the world

-- a payload, and the frames of its answer
abbrev pub Exchange : Type 0
Exchange = List ℕ × List (List ℕ)

-- the payloads that were served, in order, each with its answer
abbrev pub exchanges : (digest : List ℕ → List ℕ) (may_want : Bool) (room : ℕ) (fresh : ServedState)
    (taken : List ℕ) (frames : List (List ℕ)) (clash : Option MetaClash) (state : ServedState)
    → AreSteps digest may_want room fresh taken frames clash state → List Exchange
exchanges digest may_want room fresh _ _ _ _ none = []
exchanges digest may_want room fresh _ _ _ _
    (more front frames mid before sender payload some clash new fits replies) =
    exchanges digest may_want room fresh front frames None mid before ++ (payload, some) ∷ []

-- the event that a payload is, if it is one, with the frames of its answer
abbrev pub event_if : Meaning → List (List ℕ) → List (Event × List (List ℕ))
event_if (an_event happening) frames = (happening, frames) ∷ []
event_if _ frames = []

-- the events that payloads are, in order, each with the frames of its answer: a payload that is
-- longer than the room is none
abbrev pub events_of : ℕ → ℕ → ℕ → List Exchange → List (Event × List (List ℕ))
events_of room f own all =
    flat_map
    (λ exchange. cond (nat_lt room (length exchange.0)) []
    (event_if (meaning f own exchange.0) exchange.1)) all

-- no payload that is looked at is an entry of the very shard that serves
abbrev pub NoOwnEntry : ℕ → ℕ → ℕ → List Exchange → Type 0
NoOwnEntry room f own all =
    (exchange : Exchange) → Contains all exchange → length exchange.0 ≤ room
    → meaning f own exchange.0 ≢ own_entry

-- the answer is one frame, which tells of want of room
abbrev pub TellsWant : List (List ℕ) → Type 0
TellsWant frames =
    (code : ℕ) × (first : ℕ) × (second : ℕ) × IsWant code
    × (frames ≡ answer_text code first second ∷ [])

-- events in order and their lines: those whose answer tells of want of room are left out, and each
-- other one was answered by its line, which never tells of that
pub data AreOf : List Event → List Line → List (Event × List (List ℕ)) → Type 0 where
  nothing : AreOf [] [] []
  with_next : (some : List Event) (lines : List Line) (all : List (Event × List (List ℕ)))
      (happening : Event) (said : Line) (frames : List (List ℕ))
      → AreOf some lines all
      → IsTold said frames → (TellsWant frames → ⊥)
      → AreOf (some ++ happening ∷ []) (lines ++ said ∷ []) (all ++ (happening, frames) ∷ [])
  without_next : (some : List Event) (lines : List Line)
      (all : List (Event × List (List ℕ))) (happening : Event) (frames : List (List ℕ))
      → AreOf some lines all
      → TellsWant frames → AreOf some lines (all ++ (happening, frames) ∷ [])

-- the world at the end of a run
abbrev pub last_world : World → List World → World
last_world world [] = world
last_world world (next ∷ states) = last_world next states

-- the last line is the collision of the two texts that end serving, and no other is a collision; if
-- serving goes on, none is
abbrev pub StopsBy : Option MetaClash → List Line → Type 0
StopsBy None lines = GoesOn lines
StopsBy (Some texts) lines =
    (ends : EndsInCollision lines) × (ends.said ≡ of_line.Collision texts.left texts.right)

-- A RUN OF THE WORLD from one state to the other, of these events in order, without those whose
-- answer tells of want of room; each event was answered by its line
pub record IsRunTo (digest : List ℕ → List ℕ) (world : World)
    (fresh : ServedState) (all : List (Event × List (List ℕ)))
    (clash : Option MetaClash) (state : ServedState) : Type 0 where
  pub events : List Event
  pub states : List World
  pub lines : List Line
  pub answered : AreOf events lines all
  pub run : Runs (rules_of digest fresh.shard.f) (world_of world fresh) events states lines
  pub ends : last_world (world_of world fresh) states ≡ world_of world state
  pub stops : StopsBy clash lines

-- what was served is a run of the events that the payloads are, if none is an entry of the very
-- shard that serves
abbrev pub IsServedRun : (List ℕ → List ℕ) → ℕ → ServedState → List Exchange → Option MetaClash
    → ServedState → Type 0
IsServedRun digest room fresh all clash state =
    NoOwnEntry room fresh.shard.f fresh.shard.index all
    → (world : World)
    → IsRunTo digest world fresh (events_of room fresh.shard.f fresh.shard.index all) clash state

-- at each place of what was served, what was served so far is such a run, to the state there: so it
-- is one up to the first entry of the very shard that serves, whatever follows
abbrev pub AreServedRuns : (digest : List ℕ → List ℕ) (may_want : Bool)
    (room : ℕ) (fresh : ServedState) (taken : List ℕ)
    (frames : List (List ℕ)) (clash : Option MetaClash) (state : ServedState)
    → AreSteps digest may_want room fresh taken frames clash state → Type 0
AreServedRuns digest may_want room fresh _ _ _ _ none = IsServedRun digest room fresh [] None fresh
AreServedRuns digest may_want room fresh _ _ _ _
    (more front frames mid before sender payload some clash new fits replies) =
    AreServedRuns digest may_want room fresh front frames None mid before
    × IsServedRun digest room fresh
    (exchanges digest may_want room fresh front frames None mid before ++ (payload, some) ∷ [])
    clash new

-- ---- of all that was taken

-- these two texts ended serving exactly if its end tells them; if a write failed, its end does not
-- tell
abbrev pub EndsBy : ServeEnd → Option MetaClash → Type 0
EndsBy (ending.Collision texts) clash = clash ≡ Some texts
EndsBy ending.WriteFault clash = ⊤
EndsBy _ clash = clash ≡ None

-- serving did so to the whole envelopes at the front of what was taken, behind which no whole one
-- stands within the limit, and ended so
pub record IsReached (digest : List ℕ → List ℕ) (may_want : Bool) (room limit : ℕ)
    (fresh : ServedState) (taken : List ℕ) (frames : List (List ℕ))
    (state : ServedState) (end : ServeEnd) : Type 0 where
  pub front : List ℕ
  pub rest : List ℕ
  pub clash : Option MetaClash
  pub ended : EndsBy end clash
  pub parts : taken ≡ front ++ rest
  pub behind : BeginsNone (take (limit - length front) rest)
  pub steps : AreSteps digest may_want room fresh front frames clash state
  pub fronts : AreServedRuns digest may_want room fresh front frames clash state steps
  pub runs : IsServedRun digest room fresh
      (exchanges digest may_want room fresh front frames clash state steps) clash state

-- EVERY SERVING: from a state in which each shard has a node of its own and the epoch isn't
-- changing, whatever is taken and however serving ends
abbrev pub EveryServing : (List ℕ → List ℕ) → Type 0
EveryServing digest =
    (may_want : Bool) (room limit : ℕ) (fresh : ServedState) (taken : List ℕ)
    (frames : List (List ℕ)) (state : ServedState) (end : ServeEnd)
    → IsDesk fresh
    → Serves (AnswersRequest digest may_want) room limit fresh taken ⊤ ⊤ ⊤ frames state end
    → IsReached digest may_want room limit fresh taken frames state end
