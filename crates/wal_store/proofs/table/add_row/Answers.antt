use Rattle.wal_store.proofs.Common.{◌∙◌, ap, rules, all_pages}
use Rattle.wal_store.proofs.TableLaws.{added}
use Rattle.wal_store.proofs.table.add_row.Goals as goal

pub returns : goal.returns
returns c =
    let page = c.prepend-home.ensures in
    let a = added _ _ _ _ _ _ c.requires.owns c.requires.gap page.adds page.free page.front in
    let now = rw c.empty.ensures at c.insert.ensures.items in
    record {
      owns = rw now a.owns;
      entries = cc (now, a.entries);
      pages = ap (all_pages c.prepend-home.new.self) now ∙ a.pages;
      ids = cc (now, a.ids);
      room = search rules;
      free = page.free;
    }
