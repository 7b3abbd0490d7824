-- What serves private functions and proofs beside Determined.
use Rattle.std.specs.Prelude.{◌≡◌, ℕ, true, false, is_some, List, Option}
use Rattle.wal_shape.specs.declared.text.MetaClash.{MetaClash}
use Rattle.wal_serve.specs.Serving.{Table}
use Rattle.wal_serve.specs.Determined.{SameButLast}

-- one answer: both stop serving or neither does, and the state then is the same; so are the frames,
-- but for the two texts in the last one of a collision
pub record SameAnswer {C : Type 0} (xs ys : List (List ℕ))
    (clash second : Option MetaClash) (new then : C) : Type 0 where
  pub stops : is_some clash ≡ is_some second
  pub frames : is_some clash ≡ false → xs ≡ ys
  pub last : is_some clash ≡ true → SameButLast xs ys
  pub state : new ≡ then

-- a table that has at most one answer to each payload
abbrev pub IsSingle : {C : Type 0} → Table C → Type 0
IsSingle {C} Answer =
    (old : C) (payload : List ℕ) (frames others : List (List ℕ))
    (clash second : Option MetaClash) (new then : C)
    → Answer old payload frames clash new → Answer old payload others second then
    → SameAnswer frames others clash second new then
