use Rattle.wal_reader.proofs.HeardLaws.{two_still}
use Rattle.wal_reader.proofs.kept.Kept.after.Goals as goal

pub returns-in-Two-clause-heard : goal.returns-in-Two-clause-heard
returns-in-Two-clause-heard g c = λ payloads was.
    two_still g.H.Hash32.digest c.args.id.now.0 c.in-Two.clash payloads c.args.payload.now (rw c.in-Two.is at was)
