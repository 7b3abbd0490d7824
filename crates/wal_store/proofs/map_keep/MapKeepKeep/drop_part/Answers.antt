use Rattle.wal_store.proofs.Common.{arith, cost_in}
use Rattle.wal_store.proofs.StockLaws.{clear_cost, kept_changed, shows_of, shown_clear, recharged_less}
use Rattle.wal_store.proofs.map_keep.MapKeepKeep.drop_part.Goals as goal

pub recharged-self-inside-requires : goal.recharged-self-inside-requires
recharged-self-inside-requires c =
    (recharged_less _ _ (cost_in c.clear.new.holdings.entries) _ c.self.invariant.2
    (cc (clear_cost _ c.args.id.now c.args.part c.self.invariant.0, c.clear.ensures.cleared, c.freed-freed.ensures))).0

pub invariant_of-self : goal.invariant_of-self
invariant_of-self c =
    let cost = clear_cost _ c.args.id.now c.args.part c.self.invariant.0 in
    let less = recharged_less _ _ (cost_in c.clear.new.holdings.entries) c.freed-freed.result c.self.invariant.2
    (cc (cost, c.clear.ensures.cleared, c.freed-freed.ensures)) in (
      c.clear.ensures.ordered,
      omega (arith, c.clear.ensures.fewer, c.self.invariant.1),
      less.1 _ c.recharged-self-inside.ensures,
      rw c.clear.ensures.cleared (kept_changed _ c.args.id.now _ c.self.invariant.3),
    )

pub returns-clause-dropped : goal.returns-clause-dropped
returns-clause-dropped c =
    let shows = shows_of c.self.invariant.0 c.self.view_is in
    shown_clear c.args.id.now shows c.args.part c.clear.ensures.cleared c.clear.ensures.ordered
