use Rattle.wal_commit.proofs.Bodies.{held_body}
use Rattle.wal_commit.proofs.opening.openings_are_bodies.Goals as goal

pub returns : goal.returns
returns g c = held_body g.H.Hash32.digest
