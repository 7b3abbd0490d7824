use Rattle.wal_challenge.proofs.VerdictLaws.{accepted}
use Rattle.wal_challenge.proofs.checking.answers_are_accepted.Goals as goal

pub returns : goal.returns
returns g c = accepted g.H.Hash32.digest g.met.H.Hash32.size
