-- What the status of a run shows: the table of causes, with a row for each status.
use Rattle.std.specs.Prelude.{◌≡◌, ◌⊎◌, ℕ, List, Option, Some}
use Rattle.std.specs.Io.KnownBytes.{Appends, Keeps}
use Rattle.wal_port.specs.Appending.{AppendsPart}
use Rattle.wal_shape.specs.declared.text.MetaClash.{MetaClash}
use Rattle.wal_tree.specs.Collision.{IsCollision}
use Rattle.wal_serve.specs.declared.serving.ServeEnd.{ServeEnd}
use Rattle.wal_serve.specs.declared.serving.ServeEnd.TheVariants.{ReadFault, WriteFault, Malformed}
use Rattle.wal_serve.specs.declared.serving.ServeEnd.TheVariants.{TooLong, Collision}
use Rattle.wal_serve.specs.Room.{desk_room}
use Rattle.wal_serve.specs.Serving.{IsServed}
use Rattle.wal_serve.specs.State.{ServedState}
use Rattle.wal_words.specs.declared.task.Service.{Service}
use Rattle.wal_words.specs.declared.task.Task.{Task}
use Rattle.wal_words.specs.declared.task.Task.TheVariants.{Serve}
use Rattle.wal_words.specs.Task.{IsTask, NoTask}
use Rattle.wal_run.specs.Around.{Around}
use Rattle.wal_run.specs.Command.{Command, IsClash, IsFrontOf, IsFrontUpToClash, IsLacking}
use Rattle.wal_run.specs.Command.{IsRejection, IsTaken, IsTooLong, IsUnreadable, MayOwe}
use Rattle.wal_run.specs.Command.{TakesAtMost, TakesInput}
use Rattle.wal_run.specs.Commands.{command_of, usage_text}
use Rattle.wal_run.specs.SameText.{IsPlaceOf, Place, SameText}
use Rattle.wal_run.specs.Serving.{answering, at_start, serve_limit}
use Rattle.wal_run.specs.Answers.{Answers, Completes, IsAnswered, too_long_text}

-- the words ask for a task, the input of its command was taken, and the whole text that tells the
-- cause was written
pub record ShowsCause (digest : List ℕ → List ℕ) (words : List (List ℕ))
    (around : Around) (Cause : Command → List ℕ → List ℕ → Type 0) : Type 0 where
  pub asked : Task
  pub is_task : IsTask words asked
  pub input : List ℕ
  pub taken : IsTaken (command_of digest asked) around.left around.after input
  pub text : List ℕ
  pub cause : Cause (command_of digest asked) input text
  pub written : Appends around.old around.new text

-- the words ask to serve a shard, and serving ended so: what was taken, answered and written
pub record ServesUntil (digest : List ℕ → List ℕ)
    (words : List (List ℕ)) (around : Around) (end : ServeEnd) : Type 0 where
  pub service : Service
  pub is_task : IsTask words (Serve service)
  pub state : ServedState
  pub run : IsServed (answering digest) (desk_room service.faults) serve_limit service.shard
      (at_start service) state around.left around.after
      around.SourceRose around.old around.new around.SinkRose end

-- what was to be written when the sink failed: the text of the answer, or what the command may have
-- been writing before it was known
abbrev pub IsOwed : (List ℕ → List ℕ) → List (List ℕ) → Around → List ℕ → Type 0
IsOwed digest words around text =
    ((status : ℕ) × Answers digest words around.left around.after status text)
    ⊎ ((asked : Task) × IsTask words asked × (input : List ℕ)
    × IsTaken (command_of digest asked) around.left around.after input
    × MayOwe digest (command_of digest asked) input text)

-- ---- THE TABLE

-- what each status shows of the words, of what was taken and of what was written
pub data Causes (digest : List ℕ → List ℕ) (words : List (List ℕ)) (around : Around) : ℕ
    → Type 0 where
  -- 0: the whole answer was written
  success : IsAnswered digest words around 0 → Causes digest words around 0
  -- 2: the words ask for nothing, nothing was taken, and the usage was written
  usage : NoTask words → Keeps around.left around.after → Appends around.old around.new usage_text
      → Causes digest words around 2
  -- 3: what is false in the input, with its evidence there, or the proof that was written
  rejected : ShowsCause digest words around (IsRejection digest) → Causes digest words around 3
  -- 4: something is lacking, which the text names
  lacking : ShowsCause digest words around (IsLacking digest) → Causes digest words around 4
  -- 5: memory ran out; while serving, only before the first byte was taken or written
  no_memory : ((service : Service) → IsTask words (Serve service)
      → TakesAtMost around.left around.after 0 × Keeps around.old around.new)
      → Causes digest words around 5
  -- 6: the source failed, and nothing was written but, when serving, the answers to the whole
  -- envelopes that were taken
  source_failed : around.SourceRose → (asked : Task) → IsTask words asked
      → TakesInput (command_of digest asked).grammar
      → TakesAtMost around.left around.after (command_of digest asked).limit
      → Keeps around.old around.new
      → Causes digest words around 6
  source_failed_serving : around.SourceRose → ServesUntil digest words around ReadFault
      → Causes digest words around 6
  -- 7: the sink failed, and a prefix of the text was written
  sink_failed : around.SinkRose → (text : List ℕ) → IsOwed digest words around text
      → AppendsPart around.old around.new text → Causes digest words around 7
  sink_failed_serving : around.SinkRose → ServesUntil digest words around WriteFault
      → Causes digest words around 7
  -- 8: the input is no stream, no schedule or no image; the bytes to a shard are no stream from
  -- this place on
  unreadable : ShowsCause digest words around (IsUnreadable digest) → Causes digest words around 8
  unreadable_serving : (place : ℕ) → ServesUntil digest words around (Malformed place)
      → Causes digest words around 8
  -- 9: the source has more than the limit, of which one byte more than the limit was taken
  too_long : (asked : Task) → IsTask words asked
      → IsTooLong (command_of digest asked) around.left around.after
      → Appends around.old around.new too_long_text
      → Causes digest words around 9
  too_long_serving : ServesUntil digest words around TooLong → Causes digest words around 9
  -- 10: two texts with one digest were written
  collision : (one other : List ℕ) → IsCollision digest one other
      → ShowsCause digest words around (IsClash digest one other) → Causes digest words around 10
  collision_serving : (clash : MetaClash) → IsCollision digest clash.left clash.right
      → ServesUntil digest words around (Collision clash)
      → Causes digest words around 10

-- ---- the other way: the words and the input have at most one answer, which was told, but for want
-- of memory and faults

-- the words and the bytes of a source have at most one answer, but for the two texts of a collision
-- at its end, which are told where the task of the words tells them; that they have one is said of
-- each run without a fault whose status is not 5
abbrev pub HasOneAnswer : (List ℕ → List ℕ) → List (List ℕ) → Type 0
HasOneAnswer digest words =
    (place : Place) → IsPlaceOf words place
    → (input : List ℕ) (after later : Option (List ℕ)) (status other : ℕ) (text given : List ℕ)
    → Completes digest words (Some input) after status text
    → Completes digest words (Some input) later other given
    → (status ≡ other) × SameText place status text given

-- this status and text were told, or why they were not, and which prefix of the text was written
-- then
pub data WasTold (place : Place) (expected : ℕ) (text : List ℕ) (around : Around) : ℕ → Type 0 where
  -- they were, except that the two texts of a collision are not compared
  told : (given : List ℕ) → SameText place expected given text → Appends around.old around.new given
      → WasTold place expected text around expected
  -- 5: memory ran out
  no_memory : (given : List ℕ) → IsFrontOf given text → Appends around.old around.new given
      → WasTold place expected text around 5
  -- 6: the source failed
  source_failed : around.SourceRose → (given : List ℕ) → IsFrontOf given text
      → Appends around.old around.new given
      → WasTold place expected text around 6
  -- 7: the sink failed, at the latest while the two texts of a collision, which are not compared,
  -- were written
  sink_failed : around.SinkRose → (given : List ℕ) → IsFrontUpToClash place expected given text
      → AppendsPart around.old around.new given
      → WasTold place expected text around 7

-- if the source tells its bytes, whatever answer the words and these have was told
abbrev pub IsExact : (List ℕ → List ℕ) → List (List ℕ) → Around → ℕ → Type 0
IsExact digest words around status =
    (place : Place) → IsPlaceOf words place → (input : List ℕ) → around.left ≡ Some input
    → (after : Option (List ℕ)) (expected : ℕ) (text : List ℕ)
    → Completes digest words (Some input) after expected text
    → WasTold place expected text around status

-- words that ask for nothing have the status of usage, but for want of memory and a sink that
-- failed
abbrev pub IsUsage : List (List ℕ) → Around → ℕ → Type 0
IsUsage words around status =
    NoTask words → (status ≡ 2) ⊎ ((status ≡ 5) ⊎ ((status ≡ 7) × around.SinkRose))

-- if neither count of faults rose, the whole answer was written, or memory ran out
abbrev pub IsComplete : (List ℕ → List ℕ) → List (List ℕ) → Around → ℕ → Type 0
IsComplete digest words around status =
    ¬ around.SourceRose → ¬ around.SinkRose → (status ≡ 5) ⊎ IsAnswered digest words around status
