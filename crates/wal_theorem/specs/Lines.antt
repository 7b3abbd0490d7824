-- The lines of a schedule, which are those of a safe run.
use Rattle.std.specs.Prelude.{◌≡◌, ℕ, ◌<◌, ◌≤◌, ◌⊎◌, true, List, [], ◌∷◌, ◌++◌, length, take}
use Rattle.wal_event.specs.declared.event.Schedule.{Schedule}
use Rattle.wal_event.specs.declared.line.Line.{Line}
use Rattle.wal_protocol.specs.State.{World}
use Rattle.wal_protocol.specs.Run.{first_state, is_collision, GoesOn, IsRun}
use Rattle.wal_protocol.specs.Safe.{EachStep, IsSafe, IsRecoveryComplete}
use Rattle.wal_theorem.specs.Instance.{rules_of}

-- THE LINES OF A SAFE RUN of a schedule
pub record AreLines (digest : List ℕ → List ℕ)
    (schedule : Schedule) (lines : List Line) : Type 0 where
  -- the states of the world after each event
  pub states : List World
  -- they are the lines and states of a run of all its events, up to a collision, by the rules of
  -- this code (`Steps` says what an event does)
  pub run : IsRun (rules_of digest schedule.f) schedule states lines
  -- it is safe: two reads agree, and what is recovered has the committed root; while no committee
  -- has more than f faulty shards, what is certified is kept, reads complete, and what is declared
  -- invalid is refuted by a proof
  pub safe : IsSafe (rules_of digest schedule.f) schedule states lines
  -- its recoveries complete
  pub recovered : EachStep IsRecoveryComplete (first_state schedule) schedule.events states lines

-- the schedule of its first events
abbrev pub front_of : Schedule → ℕ → Schedule
front_of schedule count = record schedule { events = take count schedule.events }

-- the lines of a schedule's first events
pub record AreFirstLines (digest : List ℕ → List ℕ)
    (schedule : Schedule) (lines : List Line) : Type 0 where
  pub count : ℕ
  pub some : count ≤ length schedule.events
  pub of_front : AreLines digest (front_of schedule count) lines

-- there are fewer lines than events, or none
abbrev pub IsUnfinished : Schedule → List Line → Type 0
IsUnfinished schedule lines = (length lines < length schedule.events) ⊎ (lines ≡ [])

-- the last line is a collision, and none before it is
pub record EndsInCollision (lines : List Line) : Type 0 where
  pub front : List Line
  pub said : Line
  pub whole : lines ≡ front ++ said ∷ []
  pub collision : is_collision said ≡ true
  pub goes_on : GoesOn front
