use Rattle.wal_ledger.proofs.Common.{arith}
use Rattle.wal_ledger.proofs.RowsTable.{table_new}
use Rattle.wal_ledger.proofs.rows.Table.create.Goals as goal

pub invariant_of-result : goal.invariant_of-result
invariant_of-result c =
    let ids = c.in_ok-with_capacity in
    let rows = c.in_ok-with_capacity-2 in
    let order = c.in_ok-with_capacity-3 in
    let live = c.in_ok-with_capacity-4 in
    let table = table_new ids.field-0.items rows.field-0.items order.field-0.items live.field-0.items ids.ensures.items rows.ensures.items order.ensures.items live.ensures.items in
    search (arith, table, ids.ensures, rows.ensures, order.ensures, live.ensures)
