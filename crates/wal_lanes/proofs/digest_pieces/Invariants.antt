use Rattle.wal_lanes.proofs.Common.{◌*◌, sha256, AreDigests}
use Rattle.wal_lanes.proofs.digest_pieces.Given as goal

abbrev pub invariant-groups : goal.invariant-groups
invariant-groups l = AreDigests sha256 l.prefix l.size l.content (8 * l.group) l.out
