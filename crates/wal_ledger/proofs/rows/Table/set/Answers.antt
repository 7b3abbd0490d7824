use Rattle.wal_ledger.proofs.Common.{cond, sym, ap, ◌∙◌, arith, id_eq, Row, Rows, row_in}
use Rattle.wal_ledger.proofs.RowsPlace.{beside_none}
use Rattle.wal_ledger.proofs.RowsTable.{rows_set}
use Rattle.wal_ledger.proofs.rows.Table.set.Goals as goal

pub unreachable-requires : goal.unreachable-requires
unreachable-requires c =
    let gap = rw (c.deref.ensures.value, c.deref-2.ensures.value) at c.in-Err.ensures.gap in
    let row = ap (λ (t : Rows). (row_in t c.args.id.now).until) (sym c.self.view_is) ∙ ap (λ (r : Row). r.until) (beside_none _ _ _ gap.absent) in
    omega (arith, row, c.requires)

pub returns-clause-rows : goal.returns-clause-rows
returns-clause-rows c q =
    let i = c.self.inside in
    rows_set i.ids.items i.rows.items i.order.items i.live.items _ c.in-Ok.place _ c.args.row q c.self.invariant.0
    (rw (c.deref.ensures.value, c.deref-2.ensures.value) at c.in-Ok.ensures.found) c.index.ensures
    ∙ ap (λ (t : Rows). cond (id_eq c.args.id.now q) c.args.row (row_in t q)) c.self.view_is
