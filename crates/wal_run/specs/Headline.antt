-- THE HEADLINE: what the program promises of `replay`.
use Rattle.std.specs.Prelude.{◌≡◌, ◌⊎◌, ℕ, ◌≤◌, List, length, Some, Ok}
use Rattle.std.specs.Io.KnownBytes.{Appends}
use Rattle.wal_event.specs.declared.event.Schedule.{Schedule}
use Rattle.wal_schedule.specs.Grammar.{IsRead}
use Rattle.wal_words.specs.declared.task.Task.TheVariants.{Whole}
use Rattle.wal_words.specs.declared.task.WholeTask.TheVariants.{Replay}
use Rattle.wal_words.specs.Task.{IsTask}
use Rattle.wal_run.specs.Command.{IsTakenWhole, most_input}
use Rattle.wal_run.specs.Around.{Around}
use Rattle.wal_run.specs.Replaying.{IsReport}

-- the words ask for `replay`, and neither count of faults rose
pub record AsksToReplay (words : List (List ℕ)) (around : Around) : Type 0 where
  pub asked : IsTask words (Whole Replay)
  pub no_read_fault : ¬ around.SourceRose
  pub no_write_fault : ¬ around.SinkRose

-- the source tells its bytes, and these spell the schedule within the limit
pub record TellsSchedule (around : Around) (schedule : Schedule) : Type 0 where
  pub input : List ℕ
  pub tells : around.left ≡ Some input
  pub within : length input ≤ most_input
  pub spells : IsRead input (Ok schedule)

-- whatever the source tells: an input was taken to its end, within the limit, and it spells the
-- schedule
pub record TakesSchedule (around : Around) (schedule : Schedule) : Type 0 where
  pub input : List ℕ
  pub taken : IsTakenWhole most_input around.left around.after input
  pub spells : IsRead input (Ok schedule)

-- every schedule is replayed as a safe run: whatever faulty shards and writers send, two completed
-- reads of a blob agree, and every sliver that is recovered has the committed root, or two texts
-- with one digest are shown; while no committee has more than f faulty shards, the run keeps what
-- is certified, declares invalid only what a proof refutes, and its reads complete
pub record Headline (digest : List ℕ → List ℕ)
    (words : List (List ℕ)) (around : Around) (status : ℕ) : Type 0 where
  -- if the source tells its bytes, the status is 0, 10 or 5, and the report is that of the schedule
  -- that they spell
  pub of_told : AsksToReplay words around → (schedule : Schedule) → TellsSchedule around schedule
      → (text : List ℕ) × IsReport digest schedule status text × Appends around.old around.new text
  -- over any source, also the program's own, status 0 and 10 tell that the input spells a schedule,
  -- and that the report is of that schedule
  pub of_any : AsksToReplay words around → (status ≡ 0) ⊎ (status ≡ 10)
      → (schedule : Schedule) × TakesSchedule around schedule × (text : List ℕ)
      × IsReport digest schedule status text
      × Appends around.old around.new text
