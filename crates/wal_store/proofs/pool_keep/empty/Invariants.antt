use Rattle.wal_store.proofs.Common.{length, Owns}
use Rattle.wal_store.proofs.pool_keep.empty.Given as goal

abbrev pub invariant-loop-rows : goal.invariant-loop-rows
invariant-loop-rows l = Owns l.chains l.rows.items

abbrev pub decreases-loop-rows : goal.decreases-loop-rows
decreases-loop-rows l = length l.rows.items
