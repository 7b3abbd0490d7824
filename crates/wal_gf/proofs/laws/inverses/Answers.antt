use Rattle.wal_gf.proofs.Inverses.{times-inverse, inverse-lt}
use Rattle.wal_gf.proofs.laws.inverses.Goals as goal

pub returns : goal.returns
returns c a low some = (inverse-lt a, times-inverse a low some)
