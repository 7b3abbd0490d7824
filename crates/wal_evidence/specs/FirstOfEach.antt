-- The first of each key among what items give, in order, up to some number.
use Rattle.std.specs.Prelude.{◌≡◌, ℕ, ◌<◌, List, [], ◌∷◌, ◌++◌, length, map, Contains}

-- what an item adds to what was taken before, no two of which have one key; `Gives item given` says
-- that an item gives something
pub data Adds {X Y : Type 0} (Gives : X → Y → Type 0) (key : Y → ℕ)
    (most : ℕ) (x : X) (before after : List Y) : Type 0 where
  -- what the item gives, if fewer than `most` were taken and its key is new
  adds : (given : Y) → length before < most → Gives x given
      → (Contains (map key before) (key given) → ⊥)
      → after ≡ before ++ given ∷ []
      → Adds Gives key most x before after
  -- otherwise nothing
  keeps : ((given : Y) → length before < most → Gives x given
      → Contains (map key before) (key given))
      → after ≡ before → Adds Gives key most x before after

-- what is taken from items, one after the other, besides what was taken before
abbrev pub TakesAfter : {X Y : Type 0} → (X → Y → Type 0) → (Y → ℕ) → ℕ → List Y → List X → List Y
    → Type 0
TakesAfter Gives key most before [] taken = taken ≡ before
TakesAfter {X} {Y} Gives key most before (x ∷ items) taken =
    (after : List Y) × Adds Gives key most x before after
    × TakesAfter Gives key most after items taken

-- what is taken is the first of each key that the items give, in order, up to `most`
abbrev pub TakesFirst : {X Y : Type 0} → (X → Y → Type 0) → (Y → ℕ) → ℕ → List X → List Y → Type 0
TakesFirst Gives key most items taken = TakesAfter Gives key most [] items taken
