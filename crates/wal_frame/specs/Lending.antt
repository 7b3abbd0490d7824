-- What a buffer holds once the bytes that it lent are written.
use Rattle.std.specs.Prelude.{ℕ, ◌-◌, List, ◌∷◌, ◌++◌, length, take, drop, replicate}
use Rattle.std.specs.Borrow.{Lends, MutBor, Fml, Array, u8}
use Rattle.std.specs.Int.{w16, w32}
use Rattle.wal_shape.specs.Spelling.{number_text}
use Rattle.wal_frame.specs.contracts.buffer.OutBuf as out
use Rattle.wal_frame.specs.Buffer.{Buffer, appended}

-- bytes that were written to: as many as before
abbrev pub written : List ℕ → List ℕ → List ℕ
written old given = take (length old) (given ++ drop (length given) old)

-- bytes that were written to from a place on
abbrev pub written_from : ℕ → List ℕ → List ℕ → List ℕ
written_from start old given =
    written old (take start old ++ (given ++ drop (length given) (drop start old)))

-- a buffer whose last bytes were written to
abbrev pub written_last : Buffer → ℕ → List ℕ → Buffer
written_last buffer size given =
    record {
      bytes = written_from (length buffer.bytes - size) buffer.bytes given;
      spare = buffer.spare;
    }

-- a buffer with an envelope whose payload is zero bytes
abbrev pub with_zeros : Buffer → ℕ → ℕ → Buffer
with_zeros buffer sender size =
    appended (appended buffer (0x57 ∷ (number_text w16 sender ++ number_text w32 size)))
    (replicate size 0)

-- the last bytes that were written are lent
abbrev pub LendsTail : MutBor Buffer → ℕ → MutBor (List ℕ) → Fml
LendsTail buffer size room =
    Lends out.the_row (Array u8 0) buffer room (written_last buffer.now size)

-- the buffer ends with an envelope whose payload is what was written
abbrev pub LendsPayload : MutBor Buffer → ℕ → ℕ → MutBor (List ℕ) → Fml
LendsPayload buffer sender size room =
    Lends out.the_row (Array u8 0) buffer room
    (written_last (with_zeros buffer.now sender size) size)
