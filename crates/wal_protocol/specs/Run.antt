-- Runs of the world over a schedule's events.
use Rattle.std.specs.Prelude.{◌≡◌, ℕ, Bool, true, false, cond, nat_le, List, [], ◌∷◌, length, map}
use Rattle.std.specs.List.{range_with_len, AllByRecursion}
use Rattle.std.specs.FinMap as finmap
use Rattle.wal_event.specs.declared.event.Event.{Event}
use Rattle.wal_event.specs.declared.event.Schedule.{Schedule}
use Rattle.wal_event.specs.declared.line.Line.{Line}
use Rattle.wal_event.specs.declared.line.Line.TheVariants as line
use Rattle.wal_ledger.specs.Shards.{committee_size}
use Rattle.wal_protocol.specs.State.{Committee, World, nobody}
use Rattle.wal_protocol.specs.Rules.{Rules}
use Rattle.wal_protocol.specs.Step.{Steps}

-- a committee that holds nothing
abbrev pub empty_committee : ℕ → List ℕ → Committee
empty_committee f faulty = record {
  faulty = faulty;
  shards = map (λ shard. finmap.empty) (range_with_len 0 (committee_size f));
}

-- the first state: no entries, nothing held, no answers
abbrev pub first_state : Schedule → World
first_state schedule = record {
  format = schedule.format;
  log = record { f = schedule.f; first = schedule.epoch; owners = schedule.owners; entries = [] };
  now = empty_committee schedule.f schedule.faulty;
  next = nobody;
  few = nat_le (length schedule.faulty) schedule.f;
  answers = finmap.empty;
}

-- whether a line is a collision
abbrev pub is_collision : Line → Bool
is_collision (line.Collision left right) = true
is_collision _ = false

-- no line is a collision
abbrev pub GoesOn : List Line → Type 0
GoesOn lines = AllByRecursion (λ said. is_collision said ≡ false) lines

-- from a state on, events give lines and lead to states, one of each for each event; after a
-- collision no further event is taken
abbrev pub Runs : Rules → World → List Event → List World → List Line → Type 0
Runs rules old [] [] [] = Unit {0}
Runs rules old (event ∷ events) (new ∷ states) (said ∷ lines) =
    Steps rules old event said new
    × cond (is_collision said) ((states ≡ []) × (lines ≡ [])) (Runs rules new events states lines)
Runs rules old _ _ _ = ⊥

-- THE RUN of a schedule: the states after the first one, and the lines
abbrev pub IsRun : Rules → Schedule → List World → List Line → Type 0
IsRun rules schedule states lines = Runs rules (first_state schedule) schedule.events states lines
