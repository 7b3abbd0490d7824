use Rattle.wal_ledger.proofs.Common.{◌≡◌, rules, always_returns_same, id_cmp, id_of}
use Rattle.wal_ledger.proofs.RowsTable.{numbers_searched}
use Rattle.wal_ledger.proofs.numbers.place_in.Goals as goal

pub returns : goal.returns
returns c =
    let ids = c.args.ids.now in
    let id = c.args.id.now in
    let searched = c.binary_search_by.ensures.position (λ n. id_cmp (id_of ids n) id)
    (always_returns_same _ (λ a r. r ≡ id_cmp (id_of ids a.0.now) id) _ (λ a r f k. search rules)) in
    let both = numbers_searched ids c.args.numbers.now id c.binary_search_by.result c.requires
    c.binary_search_by.ensures.bound searched in
    record { found = both.0; gap = both.1 }
