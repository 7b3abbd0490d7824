use Rattle.wal_lanes.proofs.Common.{sha256, AreDigests}
use Rattle.wal_lanes.proofs.pieces.write_each.Given as goal

abbrev pub invariant-each : goal.invariant-each
invariant-each l = AreDigests sha256 l.prefix l.size l.content l.place l.out
