use Rattle.wal_ledger.proofs.Common.{rules, filter, nat_lt, arith, filter_same, Row, row_of, row_in}
use Rattle.wal_ledger.proofs.RowsTable.{retires, live_changed}
use Rattle.wal_ledger.proofs.rows.Table.retire.Goals as goal

pub invariant_of-self : goal.invariant_of-self
invariant_of-self c =
    let i = c.self.inside in
    let test = λ (r : Row). nat_lt c.args.epoch r.until in
    let kept = filter_same _ (λ n. test (row_of c.as_slice-rows.result.now n)) _ (λ x b f k. search rules) _ _ c.retain.ensures.filtered in
    let after = retires i.ids.items i.rows.items c.as_slice-rows.result.now i.order.items i.live.items _ test c.self.invariant.0 c.as_slice-rows.ensures.value kept in
    search (arith, after.0, c.retain.ensures.capacity)

pub returns : goal.returns
returns c =
    let i = c.self.inside in
    let test = λ (r : Row). nat_lt c.args.epoch r.until in
    let kept = filter_same _ (λ n. test (row_of c.as_slice-rows.result.now n)) _ (λ x b f k. search rules) _ _ c.retain.ensures.filtered in
    let after = retires i.ids.items i.rows.items c.as_slice-rows.result.now i.order.items i.live.items _ test c.self.invariant.0 c.as_slice-rows.ensures.value kept in
    live_changed _ _ (λ t. filter (λ q. test (row_in t q)) t.live) _ c.self.view_is after.1
