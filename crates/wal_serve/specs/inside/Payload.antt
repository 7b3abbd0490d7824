-- The memory for a payload.
use Rattle.std.specs.Prelude.{ℕ, List}

-- the bytes of the payload that was taken last, and the room for one
pub record PayloadRoom : Type 0 where
  pub bytes : List ℕ
  pub room : ℕ
