use Rattle.wal_store.proofs.Common.{◌∙◌, slice_set, ap, arith}
use Rattle.wal_store.proofs.OrderedLaws.{number_at, row_set}
use Rattle.wal_store.proofs.ordered.OrderedRows.set.Goals as goal

pub index_mut-requires : goal.index_mut-requires
index_mut-requires c =
    let n = number_at _ _ _ _ _ _ _ c.self.invariant.0 c.self.view_is c.requires c.index-number.ensures in
    omega (arith, n.1, c.self.inside.slots.ok.0)

pub returns-clause-items : goal.returns-clause-items
returns-clause-items c =
    let n = number_at _ _ _ _ _ _ _ c.self.invariant.0 c.self.view_is c.requires c.index-number.ensures in
    (row_set _ _ _ c.args.place c.index-number.result.now c.args.row c.self.invariant.0 n.0).rows
    ∙ ap (λ r. slice_set r.items c.args.place c.args.row) c.self.view_is
