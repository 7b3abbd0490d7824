-- What serves private functions and proofs beside Commands.
use Rattle.std.specs.Prelude.{◌≤◌, ⊤}
use Rattle.wal_words.specs.declared.task.Task.{Task}
use Rattle.wal_words.specs.declared.task.Task.TheVariants.{Whole, Read, Serve, Sample}
use Rattle.wal_words.specs.declared.task.WholeTask.{WholeTask}
use Rattle.wal_words.specs.declared.task.WholeTask.TheVariants.{Identify, Encode, Recover, Image}
use Rattle.wal_words.specs.declared.task.WholeTask.TheVariants.{Bundle, Member, Challenge, Verify}
use Rattle.wal_words.specs.declared.task.WholeTask.TheVariants.{Gateway}
use Rattle.wal_run.specs.inside.Serving.{MayServe}

-- the numbers of a task are in their range, as far as the code rests on it
abbrev pub IsWholeInRange : WholeTask → Type 0
IsWholeInRange (Identify f format) = (1 ≤ f) × (f ≤ 333)
IsWholeInRange (Encode f format) = (1 ≤ f) × (f ≤ 333)
IsWholeInRange (Recover id axis index) = index ≤ 999
IsWholeInRange (Image size) = (1 ≤ size) × (size ≤ 134217728)
IsWholeInRange (Bundle f) = (1 ≤ f) × (f ≤ 333)
IsWholeInRange (Member id k) = k ≤ 65535
IsWholeInRange (Challenge audit) = (1 ≤ audit.count) × (audit.count ≤ 1000)
IsWholeInRange (Verify audit) = (1 ≤ audit.count) × (audit.count ≤ 1000)
IsWholeInRange (Gateway capacity) = (1 ≤ capacity) × (capacity ≤ 64)
IsWholeInRange other = ⊤

abbrev pub IsInRange : Task → Type 0
IsInRange (Whole task) = IsWholeInRange task
IsInRange (Read id) = ⊤
IsInRange (Sample number) = ⊤
IsInRange (Serve service) = MayServe service
