-- What serving is: envelopes that are answered one after the other, and how it ends. `C` is the
-- state of what serves, and `Answer` says what it answers to a payload: the state before, the
-- payload, the frames, the two texts if they end serving, the state after.
use Rattle.std.specs.Prelude.{◌≡◌, ℕ, ◌+◌, ◌<◌, ◌≤◌, List, [], ◌∷◌, ◌++◌, length, take, Option}
use Rattle.std.specs.Prelude.{Some, None, IfSome, ⊤}
use Rattle.std.specs.List.{Contains}
use Rattle.std.specs.Io.KnownBytes.{Consumes, Appends, IsAtEnd}
use Rattle.wal_shape.specs.declared.text.MetaClash.{MetaClash}
use Rattle.wal_frame.specs.Frame.{envelope}
use Rattle.wal_frame.specs.Front.{IsPart}
use Rattle.wal_frame.specs.Stream.{IsPayload, IsStream, IsMalformed}
use Rattle.wal_serve.specs.declared.serving.ServeEnd.{ServeEnd}
use Rattle.wal_serve.specs.declared.serving.ServeEnd.TheVariants.{Done, ReadFault, WriteFault}
use Rattle.wal_serve.specs.declared.serving.ServeEnd.TheVariants.{Malformed, TooLong, Collision}
use Rattle.wal_serve.specs.Reply.{overlong, no_memory, reply_text, clash_text}
use Rattle.wal_serve.specs.Saying.{sent}

-- the answer to each payload
abbrev pub Table : Type 0 → Type 1
Table C = C → List ℕ → List (List ℕ) → Option MetaClash → C → Type 0

-- a payload for which there is room is looked at; a longer one is read past
pub data Replies {C : Type 0} (Answer : Table C) (room : ℕ)
    (old : C) (payload : List ℕ) : List (List ℕ)
    → Option MetaClash → C → Type 0 where
  looked_at : (frames : List (List ℕ)) (clash : Option MetaClash) (new : C) → length payload ≤ room
      → Answer old payload frames clash new
      → Replies Answer room old payload frames clash new
  read_past : room < length payload
      → Replies Answer room old payload (reply_text overlong ∷ []) None old

-- the bytes are whole envelopes, each of which was answered, until two texts ended serving
pub data Served {C : Type 0} (Answer : Table C) (room : ℕ) (fresh : C) : List ℕ → List (List ℕ)
    → Option MetaClash → C → Type 0 where
  none : Served Answer room fresh [] [] None fresh
  more : (front : List ℕ) (frames : List (List ℕ)) (mid : C)
      → Served Answer room fresh front frames None mid
      → (sender : ℕ) (payload : List ℕ) (some : List (List ℕ)) (clash : Option MetaClash) (new : C)
      → IsPayload payload → Replies Answer room mid payload some clash new
      → Served Answer room fresh (front ++ envelope sender payload) (frames ++ some) clash new

-- how serving ends, if at most `limit` bytes may be taken: at the end behind whole envelopes;
-- behind two texts of one digest, whose frame is the last; at a byte that begins no envelope; at
-- the end in an envelope; at one byte more than the limit, all before it answered; at a read that
-- fails; at a write that fails
pub data Serves {C : Type 0} (Answer : Table C) (room limit : ℕ) (fresh : C) (taken : List ℕ)
    (AtEnd SourceRose SinkRose : Type 0) (frames : List (List ℕ)) (state : C) : ServeEnd
    → Type 0 where
  done : Served Answer room fresh taken frames None state → length taken ≤ limit → AtEnd
      → Serves Answer room limit fresh taken AtEnd SourceRose SinkRose frames state Done
  stopped : (clash : MetaClash) (before : List (List ℕ))
      → Served Answer room fresh taken frames (Some clash) state → length taken ≤ limit
      → frames ≡ before ++ clash_text clash ∷ []
      → Serves Answer room limit fresh taken AtEnd
      SourceRose SinkRose frames state (Collision clash)
  wrong : (front : List ℕ) (byte : ℕ) → taken ≡ front ++ byte ∷ [] → (byte ≡ 0x57 → ⊥)
      → Served Answer room fresh front frames None state → length taken ≤ limit
      → Serves Answer room limit fresh taken AtEnd SourceRose
      SinkRose frames state (Malformed (length front))
  cut : (front rest : List ℕ) → taken ≡ front ++ rest → IsPart rest → 0 < length rest
      → Served Answer room fresh front frames None state → length taken ≤ limit → AtEnd
      → Serves Answer room limit fresh taken AtEnd SourceRose
      SinkRose frames state (Malformed (length front))
  too_long : (front rest : List ℕ) (byte : ℕ) → taken ≡ front ++ (rest ++ byte ∷ [])
      → IsPart rest
      → Served Answer room fresh front frames None state → length taken ≡ limit + 1
      → Serves Answer room limit fresh taken AtEnd SourceRose SinkRose frames state TooLong
  read_fault : (front rest : List ℕ) → taken ≡ front ++ rest → IsPart rest
      → Served Answer room fresh front frames None state → length taken ≤ limit → SourceRose
      → Serves Answer room limit fresh taken AtEnd SourceRose SinkRose frames state ReadFault
  write_fault : (clash : Option MetaClash) → Served Answer room fresh taken frames clash state
      → length taken ≤ limit → SinkRose
      → Serves Answer room limit fresh taken AtEnd SourceRose SinkRose frames state WriteFault

-- serving ended at the answer whose write failed: the answers to all earlier envelopes were written
-- whole, and that to the last one taken was written up to a place before its end
pub record BreaksOff {C : Type 0} (Answer : Table C) (room own : ℕ) (fresh : C) (taken : List ℕ)
    (frames : List (List ℕ)) (state : C) (old new : Option (List ℕ)) : Type 0 where
  pub front : List ℕ
  pub before : List (List ℕ)
  pub mid : C
  pub served : Served Answer room fresh front before None mid
  pub sender : ℕ
  pub payload : List ℕ
  pub fits : IsPayload payload
  pub took : taken ≡ front ++ envelope sender payload
  pub some : List (List ℕ)
  pub clash : Option MetaClash
  pub replies : Replies Answer room mid payload some clash state
  pub answered : frames ≡ before ++ some
  pub count : ℕ
  pub short : count < length (sent own some)
  pub wrote : Appends old new (sent own before ++ take count (sent own some))

-- what was written: the whole text; or, if a write failed, what is true then
abbrev pub Wrote : ServeEnd → Type 0 → Option (List ℕ) → Option (List ℕ) → List ℕ → Type 0
Wrote WriteFault Failed old new text = Failed
Wrote _ Failed old new text = Appends old new text

-- what was taken, what was answered and written, and how it ended
pub record IsServed {C : Type 0} (Answer : Table C) (room limit own : ℕ)
    (fresh state : C) (left after : Option (List ℕ)) (SourceRose : Type 0)
    (old new : Option (List ℕ)) (SinkRose : Type 0) (end : ServeEnd) : Type 0 where
  pub taken : List ℕ
  pub frames : List (List ℕ)
  pub consumed : Consumes left after taken
  pub serves : Serves Answer room limit fresh taken
      (IsAtEnd after) SourceRose SinkRose frames state end
  pub wrote : Wrote end (BreaksOff Answer room own fresh taken frames state old new)
      old new (sent own frames)

-- whatever is taken, and however serving ends, no frame of the answers tells that there was no
-- memory
abbrev pub NeverWants : {C : Type 0} → Table C → ℕ → ℕ → C → Type 0
NeverWants {C} Answer room limit fresh =
    (taken : List ℕ) (frames : List (List ℕ)) (state : C) (end : ServeEnd)
    → Serves Answer room limit fresh taken ⊤ ⊤ ⊤ frames state end
    → Contains frames (reply_text no_memory) → ⊥

-- if serving ended behind whole envelopes, the bytes are such; if it ended at a place where none
-- begins, none begins there
abbrev pub EndsAt : ServeEnd → List ℕ → Type 0
EndsAt Done input = (payloads : List (List ℕ)) × IsStream payloads input
EndsAt (Malformed place) input = IsMalformed place input
EndsAt _ input = ⊤

-- if the source tells its bytes, serving ends where these end or break off
abbrev pub EndsAtKnown : ServeEnd → Option (List ℕ) → Type 0
EndsAtKnown end left = IfSome left (EndsAt end)
