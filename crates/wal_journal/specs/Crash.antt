-- What crashes leave across calls: what is acknowledged stays.
use Rattle.std.specs.Prelude.{ℕ, ◌≤◌, ◌⊎◌, ⊤, List, [], ◌∷◌, ◌++◌}
use Rattle.wal_store.specs.Calls.{Call}
use Rattle.wal_journal.specs.Record.{Accepts}

-- A crash at any moment since old leaves an image of which P holds.
pub record LeavesOnly {D : Type 0} (clock : D → ℕ) (since : D → ℕ → List ℕ → Type 0)
    (old new : D) (P : List ℕ → Type 0) : Type 0 where
  pub later : clock old ≤ clock new
  pub each : (image : List ℕ) → since new (clock old) image → P image
  -- one since an earlier time leaves what it might have left, or such an image
  pub before : (time : ℕ) (image : List ℕ) → time ≤ clock old → since new time image
      → since old time image ⊎ P image

-- an image accepts these changes, and perhaps more after them
abbrev pub GoesOnAfter : List Call → List ℕ → Type 0
GoesOnAfter changes image = (more : List Call) × Accepts image (changes ++ more)

-- a crash now leaves an image that accepts these changes, and perhaps more
abbrev pub Holds : {D : Type 0} → (D → ℕ) → (D → ℕ → List ℕ → Type 0) → D → List Call → Type 0
Holds clock since disk changes =
    (image : List ℕ) → since disk (clock disk) image → GoesOnAfter changes image

-- what held stays: each crash since old leaves an image that goes on after the same changes
abbrev pub Keeps : {D : Type 0} → (D → ℕ) → (D → ℕ → List ℕ → Type 0) → D → D → Type 0
Keeps clock since old new =
    (changes : List Call) → Holds clock since old changes
    → LeavesOnly clock since old new (GoesOnAfter changes)

-- from each disk to the next, what held stays
abbrev pub EachKeeps : {D : Type 0} → (D → ℕ) → (D → ℕ → List ℕ → Type 0) → D → List D → Type 0
EachKeeps clock since first [] = ⊤
EachKeeps clock since first (next ∷ disks) =
    Keeps clock since first next × EachKeeps clock since next disks

-- the last of some disks, the first of which is given apart
abbrev pub last_of : {D : Type 0} → D → List D → D
last_of first [] = first
last_of first (next ∷ disks) = last_of next disks
