-- A stream of envelopes that is taken from a source in pieces.
use Rattle.std.specs.Prelude.{◌≡◌, ℕ, ◌+◌, ◌≤◌, List, length, take, Option, None, Some, Result, Ok}
use Rattle.std.specs.Prelude.{Err}
use Rattle.std.specs.Io.KnownBytes.{Consumes, IsAtEnd, Keeps}
use Rattle.wal_port.specs.declared.transfers.TakeError.{TakeError}
use Rattle.wal_port.specs.declared.transfers.TakeError.TheVariants.{ReadFault, TooLong, Memory}
use Rattle.wal_reader.specs.Intake.{IsWrongAt}
use Rattle.wal_reader.specs.Standing.{ReaderState, StandsFor}

-- the result of asking for a piece behind so many bytes: the first bytes of the buffer, none only
-- at the end; or a read failed, which loses nothing; or there was one byte too many
abbrev pub GivesPiece : Option (List ℕ) → Option (List ℕ) → Type 0 → ℕ → List ℕ → Result ℕ TakeError
    → Type 0
GivesPiece left after Rose taken buffer (Ok count) =
    (count ≤ length buffer) × Consumes left after (take count buffer) × (taken + count ≤ 134217728)
    × (count ≡ 0 → IsAtEnd after)
GivesPiece left after Rose taken buffer (Err ReadFault) = Keeps left after × Rose
GivesPiece left after Rose taken buffer (Err TooLong) =
    (got : List ℕ) × Consumes left after got × (taken + length got ≡ 134217729)
GivesPiece left after Rose taken buffer (Err Memory) = ⊥

-- the reader stands for the stream, or a byte of it begins no envelope, at this place
abbrev pub Stands : (List ℕ → List ℕ) → List ℕ → ReaderState → Option ℕ → List ℕ → Type 0
Stands digest id reader None stream = StandsFor digest id reader stream
Stands digest id reader (Some place) stream = IsWrongAt place stream

-- the result of one more piece, which makes this stream
abbrev pub FeedsOn : (List ℕ → List ℕ) → List ℕ → ReaderState → List ℕ → Result (Option ℕ) TakeError
    → Type 0
FeedsOn digest id reader stream (Ok wrong) = Stands digest id reader wrong stream
FeedsOn digest id reader stream (Err fault) = fault ≡ Memory

-- at most so many bytes were taken
abbrev pub TakesFew : Option (List ℕ) → Option (List ℕ) → Type 0
TakesFew left after = (taken : List ℕ) × Consumes left after taken × (length taken ≤ 134217728)

-- the result of taking a stream: it was taken whole, and the reader stands for it; or a read
-- failed; or it has one byte too many; or memory ran out
abbrev pub TakesStream : (List ℕ → List ℕ) → List ℕ → Option (List ℕ) → Option (List ℕ) → Type 0
    → ReaderState → Result (Option ℕ) TakeError → Type 0
TakesStream digest id left after Rose reader (Ok wrong) =
    (stream : List ℕ) × Consumes left after stream × IsAtEnd after × (length stream ≤ 134217728)
    × Stands digest id reader wrong stream
TakesStream digest id left after Rose reader (Err ReadFault) = TakesFew left after × Rose
TakesStream digest id left after Rose reader (Err TooLong) =
    (taken : List ℕ) × Consumes left after taken × (length taken ≡ 134217729)
TakesStream digest id left after Rose reader (Err Memory) = TakesFew left after
