-- The claims so far answer their draws.
use Rattle.wal_challenge.proofs.Common.{metadata_shown, FirstAnswer}
use Rattle.wal_challenge.proofs.checking.first_wrong.Given as goal

abbrev pub invariant-each : goal.invariant-each
invariant-each g l = FirstAnswer g.H.Hash32.digest (metadata_shown l.m) l.beacon l.shard l.claims l.d
