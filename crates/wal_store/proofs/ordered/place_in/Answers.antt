use Rattle.wal_store.proofs.Common.{◌≡◌, rules, id_cmp, row_of}
use Rattle.std.proofs.lemmas.Fn.{always_returns_same}
use Rattle.wal_store.proofs.StockLaws.{numbers_searched}
use Rattle.wal_store.proofs.ordered.place_in.Goals as goal

pub returns : goal.returns
returns c =
    let slots = c.args.slots.now in
    let id = c.args.id.now in
    let searched = c.binary_search_by.ensures.position (λ k. id_cmp (row_of slots k).id id)
    (always_returns_same _ (λ a r. r ≡ id_cmp (row_of slots a.0.now).id id) _ (λ a r f k. search rules)) in
    let both = numbers_searched slots c.args.numbers.now id _ c.requires c.binary_search_by.ensures.bound searched in
    record { found = both.0; gap = both.1 }
