-- What the program answers: the status and the text for the words and the input, and how a run
-- ends.
use Rattle.std.specs.Prelude.{ℕ, List, codes, Option}
use Rattle.std.specs.Io.KnownBytes.{Appends, Consumes, Keeps, IsAtEnd}
use Rattle.wal_port.specs.Appending.{AppendsPart}
use Rattle.wal_words.specs.declared.task.Task.{Task}
use Rattle.wal_words.specs.declared.task.Task.TheVariants.{Serve}
use Rattle.wal_words.specs.declared.task.Service.{Service}
use Rattle.wal_words.specs.Task.{IsTask, NoTask}
use Rattle.wal_run.specs.Around.{Around}
use Rattle.wal_run.specs.Command.{IsResult, IsTaken, IsTooLong, MayLeave, MayOwe, TakesAtMost}
use Rattle.wal_run.specs.Command.{TakesInput}
use Rattle.wal_run.specs.Commands.{command_of, usage_text}
use Rattle.wal_run.specs.Serving.{EndsServing, IsServiceResult}

-- the line for an input beyond the limit
abbrev pub too_long_text : List ℕ
too_long_text = codes "too long\n"

-- the status and the text for these words and what the source has, and what is taken from it: a row
-- for each case
pub data Answers (digest : List ℕ → List ℕ)
    (words : List (List ℕ)) (left after : Option (List ℕ)) : ℕ
    → List ℕ → Type 0 where
  -- the words ask for nothing, and nothing is taken
  usage : NoTask words → Keeps left after → Answers digest words left after 2 usage_text
  -- the input has more bytes than the limit of the task's command, of which one more than the limit
  -- are taken
  too_long : (task : Task) → IsTask words task → IsTooLong (command_of digest task) left after
      → Answers digest words left after 9 too_long_text
  -- the command's result for the input, which is taken whole, or that of a command that takes
  -- nothing
  done : (task : Task) → IsTask words task → (input : List ℕ)
      → IsTaken (command_of digest task) left after input
      → (status : ℕ) (text : List ℕ) → IsResult digest (command_of digest task) input status text
      → Answers digest words left after status text

-- the same, or the result of serving a shard, whose answers are written while the input is taken
pub data Completes (digest : List ℕ → List ℕ)
    (words : List (List ℕ)) (left after : Option (List ℕ)) : ℕ
    → List ℕ → Type 0 where
  answered : (status : ℕ) (text : List ℕ) → Answers digest words left after status text
      → Completes digest words left after status text
  served : (service : Service) → IsTask words (Serve service) → (taken : List ℕ)
      → Consumes left after taken
      → (status : ℕ) (text : List ℕ)
      → IsServiceResult digest service taken (IsAtEnd after) status text
      → Completes digest words left after status text

-- the whole text of the answer was written
abbrev pub IsAnswered : (List ℕ → List ℕ) → List (List ℕ) → Around → ℕ → Type 0
IsAnswered digest words around status =
    (text : List ℕ) × Completes digest words around.left around.after status text
    × Appends around.old around.new text

-- how a run ends: what it had to write, and what stands in the sink
pub data Ends (digest : List ℕ → List ℕ) (words : List (List ℕ)) (around : Around) : ℕ
    → Type 0 where
  -- the whole text of the answer was written
  whole : (status : ℕ) (text : List ℕ) → Answers digest words around.left around.after status text
      → Appends around.old around.new text → Ends digest words around status
  -- memory ran out while the words were read, and nothing was taken
  no_memory_for_words : Keeps around.left around.after → Keeps around.old around.new
      → Ends digest words around 5
  -- memory ran out, and nothing was written
  no_memory : (task : Task) → IsTask words task
      → TakesAtMost around.left around.after (command_of digest task).limit
      → Keeps around.old around.new
      → Ends digest words around 5
  -- memory ran out, and what the command may leave then was written
  broke_off : (task : Task) → IsTask words task → (input : List ℕ)
      → IsTaken (command_of digest task) around.left around.after input
      → (text : List ℕ) → MayLeave digest (command_of digest task) input text
      → Appends around.old around.new text → Ends digest words around 5
  -- the source failed, and nothing was written
  source_failed : (task : Task) → IsTask words task → TakesInput (command_of digest task).grammar
      → TakesAtMost around.left around.after (command_of digest task).limit → around.SourceRose
      → Keeps around.old around.new
      → Ends digest words around 6
  -- the sink failed, and a part of the text of the answer was written
  sink_failed : (status : ℕ) (text : List ℕ)
      → Answers digest words around.left around.after status text
      → around.SinkRose → AppendsPart around.old around.new text
      → Ends digest words around 7
  -- the sink failed before the answer was known, and a part of what the command may have been
  -- writing was written
  cut_off : (task : Task) → IsTask words task → (input : List ℕ)
      → IsTaken (command_of digest task) around.left around.after input
      → (text : List ℕ) → MayOwe digest (command_of digest task) input text → around.SinkRose
      → AppendsPart around.old around.new text → Ends digest words around 7
  -- serving a shard ended, by a fault or without
  serving_ended : (service : Service) → IsTask words (Serve service) → (status : ℕ)
      → EndsServing digest service around.left around.after
      around.SourceRose around.old around.new around.SinkRose status
      → Ends digest words around status
