use Rattle.wal_gf.proofs.Common.{xor_comm, xor_lt}
use Rattle.wal_gf.proofs.laws.sums.Goals as goal

pub returns-clause-closed : goal.returns-clause-closed
returns-clause-closed c a b low low' = xor_lt 16 a b low low'

pub returns-clause-commutative : goal.returns-clause-commutative
returns-clause-commutative c a b low low' = xor_comm a b
