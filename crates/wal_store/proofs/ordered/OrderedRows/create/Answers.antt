use Rattle.wal_store.proofs.Common.{◌≡◌, length, arith}
use Rattle.wal_store.proofs.OrderedLaws.{no_order}
use Rattle.wal_store.proofs.ordered.OrderedRows.create.Goals as goal

pub invariant_of-result : goal.invariant_of-result
invariant_of-result c =
    let slots = c.in_ok-slots.slots in let order = c.in_ok-order.order in let unused = c.in_ok-unused.unused in
    let long : length slots.items ≡ c.args.room = omega (arith, slots.ok.0, c.in_ok-slots.ensures.len) in
    let items = c.in_ok-order.ensures.items in
    let sound = no_order slots.items order.items unused.items _ long items c.in_ok-unused.ensures.items in
    search (arith, sound, long, c.requires, c.in_ok-order.ensures, c.in_ok-unused.ensures)
