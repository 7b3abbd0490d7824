use Rattle.wal_store.proofs.Common.{id_cmp}
use Rattle.wal_store.proofs.EntriesLaws.{one_taken_over}
use Rattle.wal_store.proofs.IdentifierLaws.{ids_total}
use Rattle.wal_store.proofs.map_keep.duplicate_all.Goals as goal

pub loop-id-preserved : goal.loop-id-preserved
loop-id-preserved c = (
  one_taken_over id_cmp ids_total _ _ _ _ _ _ _ _ c.loop-id.invariant.0 c.in-Some.ensures.steps
      c.iter-id-items.ensures.ordered c.in_ok-duplicate.ensures c.in_ok-add.ensures.added,
  c.in_ok-add.ensures.ordered,
)
