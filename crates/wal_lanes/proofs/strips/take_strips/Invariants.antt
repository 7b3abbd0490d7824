use Rattle.wal_lanes.proofs.Common.{◌≡◌, ℕ, ◌*◌, ◌%◌, length, HaveTaken}
use Rattle.wal_lanes.proofs.strips.take_strips.Given as goal

abbrev pub invariant-each : goal.invariant-each
invariant-each g l =
    (l.pieces ≡ l.fn.pieces) × (length l.groups ≡ length l.fn.groups) × (length l.strip ≡ length l.fn.strip) × (l.turn * l.width % 64 ≡ 0)
    × ((prefix : ℕ) → HaveTaken prefix (g.P.Pieces.has l.fn.pieces) l.count 0 l.fn.groups
    → HaveTaken prefix (g.P.Pieces.has l.fn.pieces) l.count (l.turn * l.width) l.groups)
