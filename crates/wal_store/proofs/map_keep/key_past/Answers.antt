use Rattle.wal_store.proofs.StockLaws.{key_in_range}
use Rattle.wal_store.proofs.map_keep.key_past.Goals as goal

pub returns-in-Some : goal.returns-in-Some
returns-in-Some c =
    let first = key_in_range _ _ _ c.range-past.result c.start_past.ensures (c.range-past.ensures.between tt) in
    rw c.in-Some.ensures.steps at first

pub returns-in-None : goal.returns-in-None
returns-in-None c =
    let first = key_in_range _ _ _ c.range-past.result c.start_past.ensures (c.range-past.ensures.between tt) in
    rw c.in-None.ensures.steps.0 at first
