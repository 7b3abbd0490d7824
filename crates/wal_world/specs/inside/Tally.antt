-- What is counted of the lines so far.
use Rattle.std.specs.Prelude.{◌≡◌, ◌-◌, ◌^◌, min, List, [], ◌∷◌, ◌++◌, length, sum_by, filter_map}
use Rattle.std.specs.Prelude.{Option, Some, None}
use Rattle.std.specs.List.{reduce}
use Rattle.std.specs.BTreeSet.{IsFromIterResult}
use Rattle.wal_shape.specs.Identifiers.{id_cmp}
use Rattle.wal_shape.specs.declared.text.Collision.{Collision}
use Rattle.wal_event.specs.declared.event.Event.{Event}
use Rattle.wal_event.specs.declared.line.Line.{Line}
use Rattle.wal_event.specs.declared.line.Line.TheVariants as line
use Rattle.wal_protocol.specs.State.{World}
use Rattle.wal_protocol.specs.Rules.{Rules}
use Rattle.wal_protocol.specs.Step.{Steps}
use Rattle.wal_world.specs.Summary.{certified_in, bytes_in, sliver_in, holders_in}
use Rattle.wal_world.specs.declared.tally.Tally.{Tally}

-- the tally of these lines
pub record IsTally (lines : List Line) (tally : Tally) : Type 0 where
  pub events : tally.events ≡ length lines
  pub certified : IsFromIterResult id_cmp (filter_map certified_in lines) tally.certified
  pub reads : tally.reads ≡ length (filter_map bytes_in lines)
  pub bytes : tally.bytes ≡ min (sum_by length (filter_map bytes_in lines)) (2 ^ 64 - 1)
  pub recovered : tally.recovered ≡ length (filter_map sliver_in lines)
  pub least_holders : tally.least_holders ≡ reduce min (filter_map holders_in lines)

-- one more line was counted
abbrev pub Counts : Line → Tally → Tally → Type 0
Counts said before after =
    (lines : List Line) → IsTally lines before → IsTally (lines ++ said ∷ []) after

-- the two texts of a line that is a collision
abbrev pub collision_in : Line → Option Collision
collision_in (line.Collision left right) = Some (record { left = left; right = right })
collision_in _ = None

-- an event was taken, and its line counted
pub record IsTallied (rules : Rules) (old : World) (event : Event) (new : World)
    (before after : Tally) (collided : Option Collision) : Type 0 where
  pub said : Line
  pub step : Steps rules old event said new
  pub counts : Counts said before after
  pub collision : collision_in said ≡ collided
