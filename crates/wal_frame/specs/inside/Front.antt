-- What serves private functions and proofs beside Front.
use Rattle.std.specs.Prelude.{ℕ, List, take, drop}
use Rattle.std.specs.Int.{w16, from_be_bytes}

-- the sender, which stands behind the first byte
abbrev pub sender_in : List ℕ → ℕ
sender_in bytes = from_be_bytes w16 (take 2 (drop 1 bytes))
