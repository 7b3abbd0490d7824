use Rattle.wal_store.proofs.Common.{◌≡◌, ◌++◌, IsOrdered, id_cmp}
use Rattle.wal_store.proofs.map_keep.duplicate_all.Given as goal

abbrev pub invariant-loop-id : goal.invariant-loop-id
invariant-loop-id l = (l.copy.entries ++ l.id-iterator ≡ l.holdings.entries) × IsOrdered id_cmp l.copy
