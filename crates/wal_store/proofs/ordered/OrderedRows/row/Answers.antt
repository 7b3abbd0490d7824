use Rattle.wal_store.proofs.Common.{◌∙◌, get_or, ap, arith}
use Rattle.wal_store.proofs.OrderedLaws.{number_at, row_there}
use Rattle.wal_store.proofs.ordered.OrderedRows.row.Goals as goal

pub index-requires : goal.index-requires
index-requires c =
    let n = number_at _ _ _ _ _ _ _ c.self.invariant.0 c.self.view_is c.requires c.index-number.ensures in
    omega (arith, n.1, c.self.inside.slots.ok.0)

pub returns : goal.returns
returns c =
    let n = number_at _ _ _ _ _ _ _ c.self.invariant.0 c.self.view_is c.requires c.index-number.ensures in
    row_there _ _ _ c.args.place c.index-number.result.now c.index.result.now c.self.invariant.0 n.0 c.index.ensures
    ∙ ap (λ r. get_or r.items c.args.place c.index.result.now) c.self.view_is
