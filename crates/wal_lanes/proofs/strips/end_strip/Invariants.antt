use Rattle.wal_lanes.proofs.Common.{◌≡◌, ℕ, ◌<◌, length}
use Rattle.wal_lanes.proofs.Taken.{EndsPart}
use Rattle.wal_lanes.proofs.strips.end_strip.Given as goal

abbrev pub invariant-each : goal.invariant-each
invariant-each l =
    (length l.out ≡ length l.fn.out) × ((g : ℕ) → g < l.place → EndsPart l.groups l.strip l.long l.seen l.count l.out g)
