use Rattle.wal_gf.proofs.Products.{times-xor_right}
use Rattle.wal_gf.proofs.laws.distributivity.Goals as goal

pub returns : goal.returns
returns c a b d low low' low'' = times-xor_right a b d
