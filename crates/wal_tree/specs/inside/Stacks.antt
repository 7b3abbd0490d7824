-- What serves private functions and proofs beside Stacks.
use Rattle.std.specs.Prelude.{◌≡◌, ℕ, ◌*◌, List, Option, Some, None, length, ⊤, Vec}
use Rattle.std.proofs.Common.{Global}

-- the bytes of an optional column
abbrev pub column_bytes : Option (Vec ℕ Global) → Option (List ℕ)
column_bytes None = None
column_bytes (Some vector) = Some vector.items

-- an optional column, if it is there, has an entry for each row
abbrev pub HasRows : ℕ → Option (List ℕ) → Type 0
HasRows rows None = ⊤
HasRows rows (Some column) = length column ≡ rows * 32
