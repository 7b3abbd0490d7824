use Rattle.wal_store.proofs.Common.{◌∙◌, refl, ap, rules, slice_get_read, all_pages}
use Rattle.wal_store.proofs.TableLaws.{cleared, slot_costs, slot_taken}
use Rattle.wal_store.proofs.table.clear.Goals as goal

pub discard-requires : goal.discard-requires
discard-requires c k =
    let found = slice_get_read _ _ c.args.place c.row.result.now refl c.requires.place c.row.ensures in
    rw (c.extent-first.ensures.links c.args.chains.now.next, c.slot.ensures)
    (slot_taken _ _ c.args.place _ c.args.part k c.requires.owns found)

pub returns : goal.returns
returns c =
    let old = c.args.chains.now in let rows = c.args.rows.now.items in let r = c.row.result.now in
    let found = slice_get_read rows _ c.args.place r refl c.requires.place c.row.ensures in
    let cost = slot_costs old rows c.args.place r c.args.part c.requires.owns.sized found in
    let change = cleared old _ rows c.args.place r c.args.part c.requires.owns found
    (rw (c.extent-first.ensures.links old.next, c.slot.ensures) at c.discard.ensures.frees)
    (rw (c.extent-first.ensures.cost, c.slot.ensures, ← cost) at c.discard.ensures.free) in
    let set = rw c.with.ensures at c.set.ensures.items in
    record {
      owns = rw set change.owns;
      entries = λ q at. cc (set, found, change.entries);
      row = λ q at. cc (set, found);
      pages = ap (all_pages c.discard.new.chains) set ∙ change.pages;
      ids = cc (set, change.ids);
      room = search rules;
    }
