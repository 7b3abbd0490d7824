use Rattle.wal_ledger.proofs.Common.{List, cond, length, ap, ◌∙◌, arith, BlobId, id_eq, id_cmp, insert_key, Rows, row_in}
use Rattle.wal_ledger.proofs.RowsTable.{rows_set, pushed}
use Rattle.wal_ledger.proofs.rows.Table.keep.Goals as goal

pub invariant_of-self-in-Err : goal.invariant_of-self-in-Err
invariant_of-self-in-Err c =
    let i = c.self.inside in
    let after = pushed i.ids.items c.append.new.list.items i.rows.items _ i.order.items c.insert.new.list.items i.live.items c.in-Err.place
    c.len-number.result c.args.id.now c.args.row c.self.invariant.0 (rw (c.deref.ensures.value, c.deref-2.ensures.value) at c.in-Err.ensures.gap)
    (omega (arith, c.len-number.ensures, c.deref.ensures.len, ap (λ (l : List BlobId). length l) c.deref.ensures.value)) c.append.ensures.items c.append-in-Err.ensures.items c.insert.ensures.items in
    search (arith, after.table, c.append.ensures, ap (λ (t : Rows). t.spare) c.self.view_is, c.requires, c.append-in-Err.ensures, c.insert.ensures)

pub returns-in-Ok-clause-rows : goal.returns-in-Ok-clause-rows
returns-in-Ok-clause-rows c q =
    let i = c.self.inside in
    rows_set i.ids.items i.rows.items i.order.items i.live.items _ c.in-Ok.place _ c.args.row q c.self.invariant.0
    (rw (c.deref.ensures.value, c.deref-2.ensures.value) at c.in-Ok.ensures.found) c.index.ensures
    ∙ ap (λ (t : Rows). cond (id_eq c.args.id.now q) c.args.row (row_in t q)) c.self.view_is

pub returns-in-Err : goal.returns-in-Err
returns-in-Err c =
    let i = c.self.inside in
    let id = c.args.id.now in
    let after = pushed i.ids.items c.append.new.list.items i.rows.items _ i.order.items c.insert.new.list.items i.live.items c.in-Err.place
    c.len-number.result c.args.id.now c.args.row c.self.invariant.0 (rw (c.deref.ensures.value, c.deref-2.ensures.value) at c.in-Err.ensures.gap)
    (omega (arith, c.len-number.ensures, c.deref.ensures.len, ap (λ (l : List BlobId). length l) c.deref.ensures.value)) c.append.ensures.items c.append-in-Err.ensures.items c.insert.ensures.items in
    record {
      ids = after.ids_are ∙ ap (λ (t : Rows). insert_key id_cmp t.ids id) c.self.view_is;
      rows = λ q. after.rows_are q ∙ ap (λ (t : Rows). cond (id_eq id q) c.args.row (row_in t q)) c.self.view_is;
      live = after.live_stays ∙ ap (λ (t : Rows). t.live) c.self.view_is;
      spare = omega (arith, c.append.ensures.len, ap (λ (t : Rows). t.spare) c.self.view_is);
    }
