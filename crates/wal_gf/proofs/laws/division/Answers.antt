use Rattle.wal_gf.proofs.Remainders.{divides}
use Rattle.wal_gf.proofs.laws.division.Goals as goal

pub returns : goal.returns
returns c = divides
