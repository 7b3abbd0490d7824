use Rattle.wal_pool.proofs.PoolLaws.{pages_whole}
use Rattle.wal_pool.proofs.Pool.free.Goals as goal

pub returns-clause-whole : goal.returns-clause-whole
returns-clause-whole c = pages_whole 4096 _ _ _ _ _ c.self.invariant.0 c.self.view_is
