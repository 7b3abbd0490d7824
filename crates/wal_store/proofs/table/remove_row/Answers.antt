use Rattle.wal_store.proofs.Common.{◌∙◌, refl, ap, rules, slice_get_read, all_pages}
use Rattle.wal_store.proofs.TableLaws.{removed}
use Rattle.wal_store.proofs.table.remove_row.Goals as goal

pub returns : goal.returns
returns c =
    let found = slice_get_read _ _ c.args.place c.remove-row.result refl c.requires.place c.remove-row.ensures.value in
    let now = c.remove-row.ensures.items in
    let page = c.remove.ensures in
    let a = removed _ _ _ _ _ c.requires.owns found (c.requires.bare _ found) page.frees page.free in
    record {
      owns = rw now a.owns;
      entries = cc (now, a.entries);
      pages = ap (all_pages c.remove.new.self) now ∙ a.pages;
      room = search rules;
    }
