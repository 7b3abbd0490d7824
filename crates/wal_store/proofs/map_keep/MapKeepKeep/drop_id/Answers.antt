use Rattle.wal_store.proofs.Common.{arith, cost_in}
use Rattle.wal_store.proofs.StockLaws.{remove_cost, kept_remove, shows_of, shown_remove, recharged_less}
use Rattle.wal_store.proofs.map_keep.MapKeepKeep.drop_id.Goals as goal

pub recharged-self-inside-requires : goal.recharged-self-inside-requires
recharged-self-inside-requires c =
    let cost = remove_cost c.self.inside.holdings.entries c.args.id.now in
    (recharged_less _ _ (cost_in c.forget.new.holdings.entries) _ c.self.invariant.2
    (cc (cost, c.forget.ensures.gone, c.cost_under-freed.ensures.value))).0

pub invariant_of-self : goal.invariant_of-self
invariant_of-self c =
    let cost = remove_cost c.self.inside.holdings.entries c.args.id.now in
    let less = recharged_less _ _ (cost_in c.forget.new.holdings.entries) c.cost_under-freed.result c.self.invariant.2
    (cc (cost, c.forget.ensures.gone, c.cost_under-freed.ensures.value)) in
    let kept = rw (← c.forget.ensures.gone) at (kept_remove _ c.args.id.now c.self.invariant.3) in
    search (arith, less.1 _ c.recharged-self-inside.ensures, kept, c.forget.ensures, c.self.invariant.1)

pub returns-clause-dropped : goal.returns-clause-dropped
returns-clause-dropped c =
    let shows = shows_of c.self.invariant.0 c.self.view_is in
    shown_remove c.args.id.now shows c.forget.ensures.gone c.forget.ensures.ordered
