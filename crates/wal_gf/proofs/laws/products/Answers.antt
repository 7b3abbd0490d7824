use Rattle.wal_gf.proofs.Products.{times-lt, times_assoc, times_comm, times-one}
use Rattle.wal_gf.proofs.laws.products.Goals as goal

pub returns-clause-closed : goal.returns-clause-closed
returns-clause-closed c a b low low' = times-lt a b low'

pub returns-clause-associative : goal.returns-clause-associative
returns-clause-associative c a b d low low' low'' = times_assoc a b d low' low''

pub returns-clause-commutative : goal.returns-clause-commutative
returns-clause-commutative c = times_comm

pub returns-clause-unit : goal.returns-clause-unit
returns-clause-unit c = times-one
