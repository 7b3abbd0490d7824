use Rattle.wal_store.proofs.Common.{◌≡◌, ℕ, List, ◌<◌, length, slice_index_or, sym, subst, PageState, Free}
use Rattle.wal_store.proofs.TokenLaws.{all_none}
use Rattle.wal_store.proofs.shelf.Shelf.close.Goals as goal

pub spend-requires : goal.spend-requires
spend-requires c =
    let P : List PageState → Type 0 = λ ss. (k : ℕ) → (d : PageState) → k < length ss → slice_index_or ss k d ≡ Free in
    all_none c.self.inside.tokens.items c.self.inside.pool c.self.invariant.0 (subst P (sym c.self.view_is) c.requires)
