-- What the tools hold once the lent buffer is written.
use Rattle.std.specs.Prelude.{ℕ, List, length, take, drop, ◌++◌, replicate}
use Rattle.std.specs.Borrow.{Lends, MutBor, Fml, Array, u8}
use Rattle.wal_matrix.specs.declared.work.Work.{Work}
use Rattle.wal_matrix.specs.contracts.work.Work.{the_row}

-- a buffer that was written to: as many bytes as before
abbrev pub written : List ℕ → List ℕ → List ℕ
written old given = take (length old) (given ++ drop (length given) old)

-- the tools end with what is left in the buffer
abbrev pub LendsRoom : MutBor Work → MutBor (List ℕ) → Fml
LendsRoom work room =
    Lends the_row (Array u8 0) work room
    (λ given. record { f = work.now.f; loaded = written work.now.loaded given })

-- the tools end with what is left in the buffer of this size
abbrev pub LendsLoaded : MutBor Work → ℕ → MutBor (List ℕ) → Fml
LendsLoaded work size room =
    Lends the_row (Array u8 0) work room
    (λ given. record { f = work.now.f; loaded = written (replicate size 0) given })
