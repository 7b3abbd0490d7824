-- A disk: what its calls do to the bytes on it, and what a crash may leave.
use Rattle.std.specs.Prelude.{◌≡◌, ℕ, ◌+◌, ◌<◌, ◌≤◌, ◌⊎◌, List, [], ◌∷◌, ◌++◌, length, take, drop}
use Rattle.std.specs.Prelude.{get_or, Result, Ok, Err}

-- a place lies in one of the ranges, each given by its start and its length
abbrev pub IsIn : List (ℕ × ℕ) → ℕ → Type 0
IsIn [] k = ⊥
IsIn (range ∷ ranges) k = ((range.0 ≤ k) × (k < range.0 + range.1)) ⊎ IsIn ranges k

-- an image of the same length, with the same bytes outside the ranges
pub record Agrees (ranges : List (ℕ × ℕ)) (bytes image : List ℕ) : Type 0 where
  pub long : length image ≡ length bytes
  pub outside : (k : ℕ) → (IsIn ranges k → ⊥) → get_or image k 0 ≡ get_or bytes k 0

-- the old bytes, overwritten with others from a place on
abbrev pub put_at : ℕ → List ℕ → List ℕ → List ℕ
put_at at bytes old = take at old ++ bytes ++ drop (at + length bytes) old

-- Time passes over a call: a crash since this time may have left what it might have left before the
-- call, or what it may leave after it. A crash during the call leaves what one after it may leave,
-- with the clock still as before.
pub record Elapses (before after : ℕ) (past since : ℕ → List ℕ → Type 0)
    (may_leave : List ℕ → Type 0) : Type 0 where
  pub later : before ≤ after
  pub nothing_else : (time : ℕ) (image : List ℕ) → since time image
      → ((time ≤ before) × past time image) ⊎ ((time ≤ after) × may_leave image)
  pub keeps : (time : ℕ) (image : List ℕ) → time ≤ before → past time image → since time image

-- what a write of n bytes does to the pending ranges, the newest first: one that fails adds its
-- range, or changes nothing
abbrev pub Writes : {E : Type 0} → ℕ → ℕ → Result (Unit {0}) E → List ℕ → List ℕ → List (ℕ × ℕ)
    → List (ℕ × ℕ) → ℕ → ℕ → Type 0
Writes at n (Ok done) old new pending pending' clock clock' =
    (pending' ≡ (at, n) ∷ pending) × (clock < clock')
Writes at n (Err failed) old new pending pending' clock clock' =
    ((pending' ≡ (at, n) ∷ pending) × (clock < clock'))
    ⊎ ((new ≡ old) × (pending' ≡ pending) × (clock' ≡ clock))

-- after a sync nothing is pending; one that fails changes nothing
abbrev pub Syncs : {E : Type 0} → Result (Unit {0}) E → List (ℕ × ℕ) → List (ℕ × ℕ) → ℕ → ℕ → Type 0
Syncs (Ok done) pending pending' clock clock' = (pending' ≡ []) × (clock < clock')
Syncs (Err failed) pending pending' clock clock' = (pending' ≡ pending) × (clock' ≡ clock)

-- the disk that is handed back, whether a call failed or not
abbrev pub disk_in : {D : Type 0} → Result D D → D
disk_in (Ok disk) = disk
disk_in (Err disk) = disk
