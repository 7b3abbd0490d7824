-- What callers see of a world, and what is true of its fields.
use Rattle.std.specs.Prelude.{ℕ, Bool}
use Rattle.wal_protocol.specs.State.{World}

-- the state that a world keeps, and how many more entries of the ledger fit; whether it once lacked
-- memory, and whether two texts with one digest turned up
pub record WorldState : Type 0 where
  pub state : World
  pub room : ℕ
  pub dead : Bool
  pub ended : Bool
