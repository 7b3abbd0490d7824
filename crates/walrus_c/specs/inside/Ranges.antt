-- The ranges of a task's numbers on which the room rests.
use Rattle.std.specs.Prelude.{◌≤◌, ⊤}
use Rattle.wal_words.specs.declared.task.Task.{Task}
use Rattle.wal_words.specs.declared.task.Task.TheVariants.{Whole}
use Rattle.wal_words.specs.declared.task.WholeTask.{WholeTask}
use Rattle.wal_words.specs.declared.task.WholeTask.TheVariants.{Encode, Verify}

-- the ranges of a task that takes its whole input at once
abbrev pub WholeInRange : WholeTask → Type 0
WholeInRange (Encode f format) = (1 ≤ f) × (f ≤ 333)
WholeInRange (Verify audit) = audit.count ≤ 1000
WholeInRange other = ⊤

-- the ranges of any task
abbrev pub InRange : Task → Type 0
InRange (Whole task) = WholeInRange task
InRange other = ⊤
