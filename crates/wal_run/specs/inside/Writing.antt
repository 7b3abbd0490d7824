-- How the writing of a text ends.
use Rattle.std.specs.Prelude.{ℕ, List, Option, Result, Ok, Err}
use Rattle.std.specs.Io.KnownBytes.{Appends, Keeps}
use Rattle.wal_port.specs.Appending.{AppendsPart}
use Rattle.wal_run.specs.Command.{Command, Content}
use Rattle.wal_run.specs.declared.finish.PutError.{PutError}
use Rattle.wal_run.specs.declared.finish.PutError.TheVariants.{Memory, WriteFault}
use Rattle.wal_run.specs.inside.Command.{Told}

-- how the writing of a text ends, if only the text, the status and the sink matter
pub data Finishes (IsText : List ℕ → Type 0)
    (old new : Option (List ℕ)) (SinkRose : Type 0) (success : ℕ) : ℕ
    → Type 0 where
  -- the whole text was written
  written : (text : List ℕ) → IsText text → Appends old new text
      → Finishes IsText old new SinkRose success success
  -- the sink failed, and a prefix of the text was written
  cut : (text : List ℕ) → IsText text → SinkRose → AppendsPart old new text
      → Finishes IsText old new SinkRose success 7

-- how a task whose input was taken ends: memory ran out and nothing was written, or the writing of
-- its result ended
pub data Performs (HasResult : ℕ → List ℕ → Type 0)
    (old new : Option (List ℕ)) (SinkRose : Type 0) : ℕ
    → Type 0 where
  out_of_memory : Keeps old new → Performs HasResult old new SinkRose 5
  finished : (success status : ℕ) → Finishes (HasResult success) old new SinkRose success status
      → Performs HasResult old new SinkRose status

-- the same for a task that writes while it works: it may also break off
pub data Does (HasResult : ℕ → List ℕ → Type 0) (IsLeft IsOwed : List ℕ → Type 0)
    (old new : Option (List ℕ)) (SinkRose : Type 0) : ℕ
    → Type 0 where
  performed : (status : ℕ) → Performs HasResult old new SinkRose status
      → Does HasResult IsLeft IsOwed old new SinkRose status
  wanted_memory : (text : List ℕ) → IsLeft text → Appends old new text
      → Does HasResult IsLeft IsOwed old new SinkRose 5
  lost_sink : (text : List ℕ) → IsOwed text → SinkRose → AppendsPart old new text
      → Does HasResult IsLeft IsOwed old new SinkRose 7

-- the same by what the input spells
abbrev pub DoesTold : (List ℕ → List ℕ) → (command : Command) → Content command.grammar
    → Option (List ℕ)
    → Option (List ℕ) → Type 0 → ℕ → Type 0
DoesTold digest command content old new SinkRose status =
    Does (Told digest command content) (command.Leaves content)
    (command.Owes content) old new SinkRose status

-- the result of writing the next piece of a text: all of it, or a prefix if the sink failed, or
-- nothing if there was no memory for it
abbrev pub PutsPiece : (List ℕ → Type 0) → Option (List ℕ) → Option (List ℕ) → Type 0
    → Result (Unit {0}) PutError → Type 0
PutsPiece IsPiece old new SinkRose (Ok done) =
    (piece : List ℕ) × IsPiece piece × Appends old new piece
PutsPiece IsPiece old new SinkRose (Err Memory) = Keeps old new
PutsPiece IsPiece old new SinkRose (Err WriteFault) =
    (piece : List ℕ) × IsPiece piece × SinkRose × AppendsPart old new piece

-- the status if a piece was not written whole
abbrev pub put_status : PutError → ℕ
put_status Memory = 5
put_status WriteFault = 7
