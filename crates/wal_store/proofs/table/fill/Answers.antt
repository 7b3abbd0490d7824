use Rattle.wal_store.proofs.Common.{◌∙◌, refl, ap, rules, slice_get_read, all_pages}
use Rattle.wal_store.proofs.TableLaws.{filled}
use Rattle.wal_store.proofs.table.fill.Goals as goal

pub returns : goal.returns
returns c =
    let r = c.row.result.now in
    let found = slice_get_read _ _ c.args.place r refl c.requires.place c.row.ensures in
    let s = c.store-first.ensures in let given = c.requires in
    let change = filled _ _ _ _ r c.args.part _ _ given.owns found (given.absent r found) given.some given.most
    s.adds s.content s.free in
    let set = rw c.with-row.ensures at c.set.ensures.items in
    record {
      owns = rw set change.owns;
      entries = λ q at. cc (set, found, change.entries);
      pages = ap (all_pages c.store-first.new.chains) set ∙ change.pages;
      ids = cc (set, change.ids);
      room = search rules;
    }
