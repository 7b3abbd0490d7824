use Rattle.wal_store.proofs.Common.{◌∙◌, ◌++◌, ap, arith, insert, option_to_list, length-set}
use Rattle.wal_store.proofs.OrderedLaws.{last_within, row_put}
use Rattle.wal_store.proofs.ordered.OrderedRows.insert.Goals as goal

pub index_mut-requires : goal.index_mut-requires
index_mut-requires c =
    let last = c.pop.ensures.items ∙ ap (λ o. c.pop.new.self.items ++ option_to_list o) c.in-Some.is in
    omega (arith, last_within _ _ _ _ c.in-Some.number c.self.invariant.0 last, c.self.inside.slots.ok.0)

pub invariant_of-self : goal.invariant_of-self
invariant_of-self c =
    let last = c.pop.ensures.items ∙ ap (λ o. c.pop.new.self.items ++ option_to_list o) c.in-Some.is in
    let put = row_put _ _ _ _ c.args.place c.in-Some.number c.args.row c.self.invariant.0 last in
    let long = length-set c.self.inside.slots.items c.in-Some.number c.args.row ∙ c.self.invariant.1 in
    search (arith, rw (← c.in-Ok.ensures.items) at put.sound, long, c.in-Ok.ensures, c.pop.ensures, c.self.invariant)

pub returns-clause-items : goal.returns-clause-items
returns-clause-items c =
    let last = c.pop.ensures.items ∙ ap (λ o. c.pop.new.self.items ++ option_to_list o) c.in-Some.is in
    let put = row_put _ _ _ _ c.args.place c.in-Some.number c.args.row c.self.invariant.0 last in
    cc (c.in-Ok.ensures.items, put.rows, ap (λ r. insert r.items c.args.place c.args.row) c.self.view_is)
