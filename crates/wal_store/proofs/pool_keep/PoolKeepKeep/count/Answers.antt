use Rattle.wal_store.proofs.Common.{◌∙◌, Some, sym, ap, rules, arith, ◌≡◌, ◌≤◌, ℕ}
use Rattle.wal_store.proofs.KeptLaws.{shows_rows, rows_fit, length-entries_of}
use Rattle.wal_store.proofs.StockLaws.{shown_len, shown_budget}
use Rattle.wal_store.proofs.pool_keep.PoolKeepKeep.count.Goals as goal

some_most : (pages most cost : ℕ) → cost ≤ pages → Some pages ≡ Some most → cost ≤ most
some_most pages most cost fits is = grind arith

pub overflow_cast-result : goal.overflow_cast-result
overflow_cast-result c =
    let fit = rows_fit c.self.inside.chains c.self.inside.rows.items c.self.inside.pages c.self.invariant.1 in
    let most = c.self.invariant.2 in let len = c.len.ensures in
    search rules

pub returns : goal.returns
returns c =
    let l = c.self.inside.chains in let rows = c.self.inside.rows.items in
    let shows = shows_rows c.self.invariant.0 c.self.view_is in
    let limit = ap (λ s. s.limit) c.self.view_is in
    record {
      value = c.len.ensures ∙ sym (length-entries_of l rows) ∙ shown_len shows;
      budget = shown_budget _ shows (λ most is. some_most _ _ _ (omega (arith, c.self.invariant.1)) (limit ∙ is));
    }
