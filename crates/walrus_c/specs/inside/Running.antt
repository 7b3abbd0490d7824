-- A run whose sink is a room.
use Rattle.std.specs.Prelude.{◌≡◌, ℕ, ◌-◌, ◌^◌, min, List, ◌++◌, length, take, drop}
use Rattle.walrus_c.specs.Call.{Comes}

-- the run of these words over this input ended with this status, and the room is then this, with
-- the count of the text's bytes
pub record Ran (digest : List ℕ → List ℕ) (words : List (List ℕ))
    (input room new : List ℕ) (status count : ℕ) : Type 0 where
  pub text : List ℕ
  pub comes : Comes digest words input status text
  pub front : new ≡ take (length room) text ++ drop (length text) room
  pub counted : count ≡ min (length text) (2 ^ 64 - 1)
