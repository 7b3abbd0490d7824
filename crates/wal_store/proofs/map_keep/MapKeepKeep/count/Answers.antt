use Rattle.wal_store.proofs.Common.{◌∙◌, ap}
use Rattle.wal_store.proofs.StockLaws.{shows_of, shown_len, shown_budget, budget_most}
use Rattle.wal_store.proofs.map_keep.MapKeepKeep.count.Goals as goal

pub returns : goal.returns
returns c =
    let shows = shows_of c.self.invariant.0 c.self.view_is in
    record {
      value = c.len.ensures.len ∙ shown_len shows;
      budget = shown_budget _ shows (budget_most _ _ _ c.self.invariant.2 (ap (λ s. s.limit) c.self.view_is));
    }
