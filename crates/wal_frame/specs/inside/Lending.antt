-- What serves private functions and proofs beside Lending.
use Rattle.std.specs.Prelude.{ℕ, List}
use Rattle.std.specs.Borrow.{Lends, MutBor, Fml, Array, u8}
use Rattle.wal_frame.specs.contracts.buffer.Room as room
use Rattle.wal_frame.specs.Buffer.{Buffer}
use Rattle.wal_frame.specs.Lending.{written_last}

-- the buffer ends with its last bytes written
abbrev pub LendsLast : MutBor Buffer → ℕ → MutBor (List ℕ) → Fml
LendsLast buffer size lent =
    Lends room.the_row (Array u8 0) buffer lent (written_last buffer.now size)
