use Rattle.wal_ledger.proofs.Common.{ap, ◌∙◌, sym, Rows, row_in}
use Rattle.wal_ledger.proofs.RowsPlace.{beside_none}
use Rattle.wal_ledger.proofs.RowsTable.{find_row}
use Rattle.wal_ledger.proofs.rows.Table.find.Goals as goal

pub returns-in-Ok : goal.returns-in-Ok
returns-in-Ok c =
    let i = c.self.inside in
    find_row i.ids.items i.rows.items i.order.items i.live.items _ c.in-Ok.place _ _ c.self.invariant.0
    (rw (c.deref.ensures.value, c.deref-2.ensures.value) at c.in-Ok.ensures.found) c.index.ensures c.index-in-Ok.ensures
    ∙ ap (λ (t : Rows). row_in t c.args.id.now) c.self.view_is

pub returns-in-Err : goal.returns-in-Err
returns-in-Err c =
    let gap = rw (c.deref.ensures.value, c.deref-2.ensures.value) at c.in-Err.ensures.gap in
    c.until.ensures ∙ sym (beside_none _ _ _ gap.absent) ∙ ap (λ (t : Rows). row_in t c.args.id.now) c.self.view_is
