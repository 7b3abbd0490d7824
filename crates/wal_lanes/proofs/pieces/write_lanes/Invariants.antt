use Rattle.wal_lanes.proofs.Common.{ℕ, ◌+◌, ◌≤◌, sha256, AreDigests}
use Rattle.wal_lanes.proofs.pieces.write_lanes.Given as goal

abbrev pub invariant-each_lane : goal.invariant-each_lane
invariant-each_lane l =
    (done : ℕ) → l.first ≤ done → AreDigests sha256 l.prefix l.size l.content done l.fn.out → AreDigests sha256 l.prefix l.size l.content (l.first + l.k) l.out
