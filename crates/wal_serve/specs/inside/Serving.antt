-- What serves private functions and proofs beside Serving.
use Rattle.std.specs.Prelude.{◌≡◌, ℕ, ◌≤◌, List, [], ◌∷◌, length, Option, Some, None, Result, Ok}
use Rattle.std.specs.Prelude.{Err, ⊤}
use Rattle.std.specs.Io.KnownBytes.{Consumes, Appends}
use Rattle.wal_shape.specs.declared.text.MetaClash.{MetaClash}
use Rattle.wal_port.specs.declared.transfers.WriteFault as port
use Rattle.wal_serve.specs.declared.envelopes.Lack.{Lack}
use Rattle.wal_serve.specs.declared.envelopes.Lack.TheVariants as lack
use Rattle.wal_serve.specs.declared.serving.ServeEnd.{ServeEnd}
use Rattle.wal_serve.specs.declared.serving.ServeEnd.TheVariants.{Done, ReadFault, Malformed}
use Rattle.wal_serve.specs.declared.serving.ServeEnd.TheVariants.{TooLong}
use Rattle.wal_serve.specs.Reply.{clash_text}
use Rattle.wal_serve.specs.Saying.{sent}
use Rattle.wal_port.specs.Appending.{AppendsPart}
use Rattle.wal_serve.specs.Serving.{Table, Replies, Served}
use Rattle.wal_serve.specs.inside.Payload.{PayloadRoom}

-- if two texts end serving, their frame is the only one of that answer
abbrev pub StopsWith : Option MetaClash → List (List ℕ) → Type 0
StopsWith None frames = ⊤
StopsWith (Some clash) frames = frames ≡ clash_text clash ∷ []

-- an answer was written whole, and the result is what ends serving; or a write failed
abbrev pub SendsOne : Option (List ℕ) → Option (List ℕ) → List ℕ → Option MetaClash
    → Result (Option MetaClash) port.WriteFault → Type 0
SendsOne old new text clash (Ok end) = (end ≡ clash) × Appends old new text
SendsOne old new text clash (Err fault) = AppendsPart old new text

-- serving so far: whole envelopes, each answered, and what was taken and written
pub record IsServing {C : Type 0} (Answer : Table C) (room own : ℕ) (fresh state : C)
    (left after old new : Option (List ℕ)) (taken : ℕ) : Type 0 where
  pub front : List ℕ
  pub frames : List (List ℕ)
  pub served : Served Answer room fresh front frames None state
  pub long : length front ≡ taken
  pub consumed : Consumes left after front
  pub appended : Appends old new (sent own frames)

-- how serving ends if no further envelope was taken whole, behind so many bytes
abbrev pub end_without : Lack → ℕ → ServeEnd
end_without lack.Nothing place = Done
end_without lack.Wrong place = Malformed place
end_without lack.Cut place = Malformed place
end_without lack.TooLong place = TooLong
end_without lack.Failed place = ReadFault

-- the answer to a payload of this size, which is in the buffer if the buffer has room for it
abbrev pub RepliesInto : {C : Type 0} → Table C → PayloadRoom → ℕ → C → List (List ℕ)
    → Option MetaClash → C → Type 0
RepliesInto Answer buffer size old frames clash new =
    (payload : List ℕ) → length payload ≡ size → (size ≤ buffer.room → buffer.bytes ≡ payload)
    → Replies Answer buffer.room old payload frames clash new

-- the same; and if two texts end serving, their frame is the only one
abbrev pub AnswersInto : {C : Type 0} → Table C → PayloadRoom → ℕ → C → List (List ℕ)
    → Option MetaClash → C → Type 0
AnswersInto Answer buffer size old frames clash new =
    RepliesInto Answer buffer size old frames clash new × StopsWith clash frames
