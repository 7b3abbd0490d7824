-- What serves private functions and proofs beside Ending.
use Rattle.std.specs.Prelude.{◌≡◌, ℕ, List, Option, Result, Ok, Err, Bool}
use Rattle.std.specs.Io.KnownBytes.{Appends, Keeps}
use Rattle.wal_event.specs.declared.event.Event.{Event}
use Rattle.wal_event.specs.declared.line.Line.{Line}
use Rattle.wal_event.specs.Report.{line_text}
use Rattle.wal_port.specs.Appending.{AppendsPart}
use Rattle.wal_protocol.specs.State.{World}
use Rattle.wal_protocol.specs.Rules.{Rules}
use Rattle.wal_protocol.specs.Step.{Steps}
use Rattle.wal_protocol.specs.Run.{is_collision}
use Rattle.wal_world.specs.declared.run.ReplayError.{ReplayError}
use Rattle.wal_world.specs.declared.run.ReplayError.TheVariants as failing

-- the result of one more event, and whether its line is a collision
abbrev pub Takes : Rules → World → Event → World → Option (List ℕ) → Option (List ℕ) → Type 0
    → Result Bool ReplayError → Type 0
Takes rules old event new before after SinkRose (Ok stops) =
    (said : Line) × Steps rules old event said new × (is_collision said ≡ stops)
    × Appends before after (line_text said)
Takes rules old event new before after SinkRose (Err failing.Memory) = Keeps before after
Takes rules old event new before after SinkRose (Err failing.WriteFault) =
    (said : Line) × (then : World) × Steps rules old event said then × SinkRose
    × AppendsPart before after (line_text said)
