use Rattle.wal_store.proofs.Common.{arith}
use Rattle.wal_store.proofs.StockLaws.{kept_remove, shown_remove}
use Rattle.wal_store.proofs.KeptLaws.{shows_rows, entries_sorted}
use Rattle.wal_store.proofs.pool_keep.PoolKeepKeep.drop_id.Goals as goal

pub returns-clause-dropped : goal.returns-clause-dropped
returns-clause-dropped c =
    let shows = shows_rows c.self.invariant.0 c.self.view_is in
    let after = c.drop_all.ensures in
    shown_remove c.args.id.now shows after.entries (entries_sorted _ _ after.owns)

pub invariant_of-self : goal.invariant_of-self
invariant_of-self c =
    let kept = rw (← c.drop_all.ensures.entries) at (kept_remove _ c.args.id.now c.self.invariant.4) in
    search (arith, kept, c.drop_all.ensures, c.self.invariant)
