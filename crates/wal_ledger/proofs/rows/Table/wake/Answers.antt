use Rattle.wal_ledger.proofs.Common.{ℕ, List, length, ap, refl, arith, insert_key, BlobId, id_cmp}
use Rattle.wal_ledger.proofs.RowsTable.{wakes, live_changed}
use Rattle.wal_ledger.proofs.rows.Table.wake.Goals as goal

pub insert-requires-clause-room : goal.insert-requires-clause-room
insert-requires-clause-room c =
    let i = c.self.inside in
    let after = wakes i.ids.items _ i.rows.items i.order.items i.live.items _ c.in-Err.place c.number_of-number.result c.args.id.now c.self.invariant.0
    (rw (c.deref-3.ensures.value, c.deref-4.ensures.value) at c.in-Err.ensures.gap) c.deref.ensures.value c.number_of-number.ensures.below c.number_of-number.ensures.id refl in
    omega (
      arith,
      after.room,
      c.deref.ensures.len,
      ap (λ (l : List BlobId). length l) c.deref.ensures.value,
      c.deref-4.ensures.len,
      ap (λ (l : List ℕ). length l) c.deref-4.ensures.value,
    )

pub invariant_of-self : goal.invariant_of-self
invariant_of-self c =
    let i = c.self.inside in
    let after = wakes i.ids.items _ i.rows.items i.order.items i.live.items c.insert.new.list.items c.in-Err.place c.number_of-number.result c.args.id.now c.self.invariant.0
    (rw (c.deref-3.ensures.value, c.deref-4.ensures.value) at c.in-Err.ensures.gap) c.deref.ensures.value c.number_of-number.ensures.below c.number_of-number.ensures.id c.insert.ensures.items in
    search (arith, after.table, c.insert.ensures.capacity)

pub returns-in-Err : goal.returns-in-Err
returns-in-Err c =
    let i = c.self.inside in
    let after = wakes i.ids.items _ i.rows.items i.order.items i.live.items c.insert.new.list.items c.in-Err.place c.number_of-number.result c.args.id.now c.self.invariant.0
    (rw (c.deref-3.ensures.value, c.deref-4.ensures.value) at c.in-Err.ensures.gap) c.deref.ensures.value c.number_of-number.ensures.below c.number_of-number.ensures.id c.insert.ensures.items in
    live_changed _ _ (λ t. insert_key id_cmp t.live c.args.id.now) _ c.self.view_is after.lives
