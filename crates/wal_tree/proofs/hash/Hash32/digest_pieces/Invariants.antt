use Rattle.wal_tree.proofs.Common.{AreDigests}
use Rattle.wal_tree.proofs.hash.Hash32.digest_pieces.Given as goal

abbrev pub invariant-each : goal.invariant-each
invariant-each g l = AreDigests g.Self.Hash32.digest l.prefix l.size l.content l.place l.out
