-- The command that runs the sample schedule of a number.
use Rattle.std.specs.Prelude.{◌≡◌, ℕ, List, [], ◌++◌, codes}
use Rattle.wal_event.specs.declared.event.Schedule.{Schedule}
use Rattle.wal_schedule.specs.Sample.{IsSample}
use Rattle.wal_world.specs.Summary.{IsSummed}
use Rattle.wal_world.specs.declared.summary.Summary.{Summary}
use Rattle.wal_world.specs.declared.summary.Summed.{Summed}
use Rattle.wal_world.specs.declared.summary.Summed.TheVariants as summed
use Rattle.wal_run.specs.Command.{Command, bare, nothing}
use Rattle.wal_run.specs.Lines.{number_text}

-- a summary, a line for each number
abbrev pub summary_text : Summary → List ℕ
summary_text summary =
    number_text (codes "events ") summary.events
    ++ number_text (codes "certified ") summary.certified
    ++ number_text (codes "reads ") summary.reads
    ++ number_text (codes "bytes ") summary.bytes
    ++ number_text (codes "recovered ") summary.recovered
    ++ number_text (codes "least holders ") summary.least_holders

-- the run of the sample schedule of a number has this result
abbrev pub SumsUp : (List ℕ → List ℕ) → ℕ → Summed → Type 0
SumsUp digest number sum =
    (schedule : Schedule) × IsSample digest number schedule × IsSummed digest schedule sum

-- the summary of the run, or the collision with which it ends; no input is taken
abbrev pub sampling : (List ℕ → List ℕ) → ℕ → Command
sampling digest number = record (bare 0 nothing) {
  Succeeds = λ none text. (summary : Summary) × SumsUp digest number (summed.Whole summary)
      × (text ≡ summary_text summary);
  Collides = λ none left right front.
      SumsUp digest number (summed.Collision (record { left = left; right = right }))
      × (front ≡ []);
}
