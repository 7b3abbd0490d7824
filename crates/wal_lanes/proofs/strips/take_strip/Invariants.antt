use Rattle.wal_lanes.proofs.Common.{◌≡◌, ℕ, ◌<◌, ◌≤◌, length, slice_get}
use Rattle.wal_lanes.proofs.Taken.{TakesPart}
use Rattle.wal_lanes.proofs.strips.take_strip.Given as goal

abbrev pub invariant-each : goal.invariant-each
invariant-each l =
    (length l.groups ≡ length l.fn.groups)
    × ((g : ℕ) → l.place ≤ g → slice_get l.groups g ≡ slice_get l.fn.groups g)
    × ((g : ℕ) → g < l.place → TakesPart l.fn.groups l.groups l.strip l.long g)
