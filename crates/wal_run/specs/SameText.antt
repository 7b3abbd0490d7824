-- Texts that are the same, but for two texts of one digest at the end.
use Rattle.std.specs.Prelude.{◌≡◌, ◌⊎◌, ℕ, List, [], ◌∷◌, ◌++◌}
use Rattle.wal_shape.specs.declared.text.MetaClash.{MetaClash}
use Rattle.wal_serve.specs.Reply.{clash_text}
use Rattle.wal_serve.specs.Saying.{sent}
use Rattle.wal_words.specs.declared.task.Task.{Task}
use Rattle.wal_words.specs.declared.task.Task.TheVariants.{Whole, Read, Serve, Sample}
use Rattle.wal_words.specs.Task.{IsTask}
use Rattle.wal_run.specs.Lines.{collision_text}

-- where two texts of one digest are told: in the last line, or in the last frame of this shard,
-- which serves
pub data Place : Type 0 where
  line : Place
  frame : ℕ → Place

-- what tells them there
abbrev pub told_at : Place → MetaClash → List ℕ
told_at line clash = collision_text clash.left clash.right
told_at (frame shard) clash = sent shard (clash_text clash ∷ [])

-- where a task tells them
abbrev pub place_of : Task → Place
place_of (Serve service) = frame service.shard
place_of (Whole task) = line
place_of (Read id) = line
place_of (Sample number) = line

-- this is where the task of these words tells them; if they ask for none, no such texts are told,
-- and any place will do
abbrev pub IsPlaceOf : List (List ℕ) → Place → Type 0
IsPlaceOf words place = (asked : Task) → IsTask words asked → place ≡ place_of asked

-- both end with two texts of one digest, told at this place, and what stands before them is the
-- same
pub record SameFront (place : Place) (text given : List ℕ) : Type 0 where
  pub front : List ℕ
  pub clash : MetaClash
  pub other : MetaClash
  pub ends : text ≡ front ++ told_at place clash
  pub ends_too : given ≡ front ++ told_at place other

-- the same text; at status 10 the two texts of the collision with which it ends are not compared
abbrev pub SameText : Place → ℕ → List ℕ → List ℕ → Type 0
SameText place status text given = (text ≡ given) ⊎ ((status ≡ 10) × SameFront place text given)
