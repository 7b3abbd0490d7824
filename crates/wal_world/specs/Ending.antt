-- How a replay ends: what it wrote, and of which run.
use Rattle.std.specs.Prelude.{ℕ, List, Option, Result, Ok, Err}
use Rattle.std.specs.Io.KnownBytes.{Appends}
use Rattle.wal_event.specs.declared.event.Schedule.{Schedule}
use Rattle.wal_event.specs.declared.line.Line.{Line}
use Rattle.wal_event.specs.Report.{report_of}
use Rattle.wal_port.specs.Appending.{AppendsPart}
use Rattle.wal_protocol.specs.Run.{GoesOn}
use Rattle.wal_theorem.specs.Lines.{AreLines, AreFirstLines, EndsInCollision, IsUnfinished}
use Rattle.wal_world.specs.declared.run.ReplayEnd.TheVariants as ending
use Rattle.wal_world.specs.declared.run.ReplayEnd.{ReplayEnd}
use Rattle.wal_world.specs.declared.run.ReplayError.{ReplayError}
use Rattle.wal_world.specs.declared.run.ReplayError.TheVariants as failing

-- how a replay ends, by what was appended to the sink
abbrev pub Replays : (List ℕ → List ℕ) → Schedule → Option (List ℕ) → Option (List ℕ) → Type 0
    → Result ReplayEnd ReplayError → Type 0
-- the lines of the schedule, none of which is a collision
Replays digest schedule old new SinkRose (Ok ending.Whole) =
    (lines : List Line) × AreLines digest schedule lines × GoesOn lines
    × Appends old new (report_of lines)
-- its lines up to a collision
Replays digest schedule old new SinkRose (Ok ending.Collision) =
    (lines : List Line) × AreLines digest schedule lines × EndsInCollision lines
    × Appends old new (report_of lines)
-- the lines of its first events
Replays digest schedule old new SinkRose (Err failing.Memory) =
    (lines : List Line) × AreFirstLines digest schedule lines × GoesOn lines
    × IsUnfinished schedule lines × Appends old new (report_of lines)
-- a part of them
Replays digest schedule old new SinkRose (Err failing.WriteFault) =
    (lines : List Line) × AreFirstLines digest schedule lines × SinkRose
    × AppendsPart old new (report_of lines)
