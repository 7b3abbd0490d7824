use Rattle.wal_store.proofs.Common.{◌≡◌, ◌∙◌, ◌-◌, Some, length, sym, ap, arith, cost}
use Rattle.wal_store.proofs.StockLaws.{kept_put, shown_held, shown_cost, shown_needed, shown_put}
use Rattle.wal_store.proofs.KeptLaws.{shows_rows, rows_fit}
use Rattle.wal_store.proofs.ChainLaws.{pages_hold}
use Rattle.wal_store.proofs.pool_keep.PoolKeepKeep.put.Goals as goal

pub returns-then-free-needed-clause-answer : goal.returns-then-free-needed-clause-answer
returns-then-free-needed-clause-answer c =
    let shows = shows_rows c.self.invariant.0 c.self.view_is in
    let left : c.self.inside.pages - cost c.args.self.now.contents ≡ c.free-free.result =
    omega (arith, c.free-free.ensures, c.self.invariant.1, shown_cost shows) in
    let needed = c.needed_by-needed.ensures ∙ sym (shown_needed c.args.id.now c.args.bytes.now shows) in
    (rw (← ap (λ s. s.limit) c.self.view_is) (ap (λ n. Some n) left), needed, c.if-free-needed.true)

pub put_part-requires-clause-absent : goal.put_part-requires-clause-absent
put_part-requires-clause-absent c =
    sym (shown_held c.args.id.now c.args.part (shows_rows c.self.invariant.0 c.self.view_is)) ∙ c.requires.absent

pub put_part-requires-clause-capacity : goal.put_part-requires-clause-capacity
put_part-requires-clause-capacity c =
    let fit = rows_fit c.self.inside.chains c.self.inside.rows.items c.self.inside.pages c.self.invariant.1 in
    omega (arith, fit, c.self.invariant.3, c.free-free.ensures, c.if-free-needed.false, c.needed_by-needed.ensures, pages_hold (length c.args.bytes.now), c.requires.some)

pub returns-clause-stored : goal.returns-clause-stored
returns-clause-stored c =
    let shows = shows_rows c.self.invariant.0 c.self.view_is in
    shown_put c.args.id.now shows c.args.part c.args.bytes.now c.put_part.ensures.entries

pub returns-clause-answer : goal.returns-clause-answer
returns-clause-answer c =
    let shows = shows_rows c.self.invariant.0 c.self.view_is in
    let needed = c.needed_by-needed.ensures ∙ sym (shown_needed c.args.id.now c.args.bytes.now shows) in
    rw (← ap (λ s. s.limit) c.self.view_is)
    (omega (arith, needed, c.if-free-needed.false, c.free-free.ensures, c.self.invariant.1, shown_cost shows))

pub invariant_of-self : goal.invariant_of-self
invariant_of-self c =
    let after = c.put_part.ensures in
    let kept = rw (← after.entries) at (kept_put _ c.args.id.now c.args.part c.args.bytes.now c.self.invariant.4) in
    search (arith, kept, after, c.self.invariant)
