use Rattle.wal_pool.proofs.StateLaws.{Given}
use Rattle.wal_pool.proofs.Pool.create.Given as goal

abbrev pub invariant-loop-number : goal.invariant-loop-number
invariant-loop-number l = Given l.pages l.number l.pool
