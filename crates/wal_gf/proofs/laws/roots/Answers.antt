use Rattle.wal_gf.proofs.Roots.{few_roots}
use Rattle.wal_gf.proofs.laws.roots.Goals as goal

pub returns : goal.returns
returns c = few_roots
