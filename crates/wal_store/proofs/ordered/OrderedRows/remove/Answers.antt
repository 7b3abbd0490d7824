use Rattle.wal_store.proofs.Common.{◌∙◌, get_or, ap, arith, remove}
use Rattle.wal_store.proofs.OrderedLaws.{number_at, row_there, row_gone}
use Rattle.wal_store.proofs.ordered.OrderedRows.remove.Goals as goal

pub index-requires : goal.index-requires
index-requires c =
    let n = number_at _ _ _ _ _ _ _ c.self.invariant.0 c.self.view_is c.requires c.remove-number.ensures.value in
    omega (arith, n.1, c.self.inside.slots.ok.0)

pub invariant_of-self : goal.invariant_of-self
invariant_of-self c =
    let n = number_at _ _ _ _ _ _ _ c.self.invariant.0 c.self.view_is c.requires c.remove-number.ensures.value in
    let gone = row_gone _ _ _ c.args.place c.remove-number.result c.self.invariant.0 n.0 in
    let sound = rw (← c.remove-number.ensures.items, ← c.in-Ok.ensures.items) at gone.sound in
    search (arith, sound, c.remove-number.ensures, c.in-Ok.ensures, c.self.invariant)

pub returns-clause-value : goal.returns-clause-value
returns-clause-value c =
    let n = number_at _ _ _ _ _ _ _ c.self.invariant.0 c.self.view_is c.requires c.remove-number.ensures.value in
    row_there _ _ _ c.args.place c.remove-number.result c.index.result.now c.self.invariant.0 n.0 c.index.ensures
    ∙ ap (λ r. get_or r.items c.args.place c.index.result.now) c.self.view_is

pub returns-clause-items : goal.returns-clause-items
returns-clause-items c =
    let n = number_at _ _ _ _ _ _ _ c.self.invariant.0 c.self.view_is c.requires c.remove-number.ensures.value in
    let gone = row_gone _ _ _ c.args.place c.remove-number.result c.self.invariant.0 n.0 in
    cc (c.remove-number.ensures.items, gone.rows, ap (λ r. remove r.items c.args.place) c.self.view_is)
