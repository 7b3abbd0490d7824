use Rattle.wal_store.proofs.Common.{◌∙◌, refl, ap, arith, from_sorted, id_cmp, entries_of}
use Rattle.wal_store.proofs.EntriesLaws.{empty_view}
use Rattle.wal_store.proofs.StockLaws.{store_is}
use Rattle.wal_store.proofs.KeptLaws.{new_table}
use Rattle.wal_store.proofs.pool_keep.PoolKeep.create.Goals as goal

pub invariant_of-result : goal.invariant_of-result
invariant_of-result c =
    let none = ap (λ r. r.items) c.in_ok-rows.ensures in
    let new = new_table c.in_ok-create.field-0 c.args.pages c.in_ok-create.ensures in
    (rw none new.0, rw none new.1, c.requires.most, omega (arith, ap (λ r. r.room) c.in_ok-rows.ensures), rw none tt)

pub returns : goal.returns
returns c = store_is _ _ _ _
    (ap (λ r. from_sorted {R = id_cmp} (entries_of c.in_ok-create.field-0 r.items)) c.in_ok-rows.ensures ∙ empty_view id_cmp)
    refl
