use Rattle.wal_store.proofs.Common.{◌∙◌, arith}
use Rattle.wal_store.proofs.StockLaws.{kept_changed, shown_clear}
use Rattle.wal_store.proofs.KeptLaws.{shows_rows, entries_sorted}
use Rattle.wal_store.proofs.pool_keep.PoolKeepKeep.drop_part.Goals as goal

pub returns-clause-dropped : goal.returns-clause-dropped
returns-clause-dropped c =
    let shows = shows_rows c.self.invariant.0 c.self.view_is in
    let after = c.drop_one.ensures in
    shown_clear c.args.id.now shows c.args.part after.entries (entries_sorted _ _ after.owns)

pub invariant_of-self : goal.invariant_of-self
invariant_of-self c =
    let after = c.drop_one.ensures in (
      after.owns,
      after.pages ∙ c.self.invariant.1,
      c.self.invariant.2,
      omega (arith, after.capacity, c.self.invariant.3),
      rw after.entries (kept_changed _ c.args.id.now _ c.self.invariant.4),
    )
