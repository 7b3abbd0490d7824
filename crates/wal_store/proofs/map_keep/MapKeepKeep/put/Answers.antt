use Rattle.wal_store.proofs.Common.{◌≡◌, ◌∙◌, ◌+◌, Err, true, sym, ap, arith, subst, Option, ℕ, IsPutAnswer, cost_in}
use Rattle.wal_store.proofs.StockLaws.{put_cost, kept_put, shows_of, shown_held, shown_cost, shown_needed, shown_put, has_room, answer_room, answer_full, recharge_more, recharged_within}
use Rattle.wal_store.proofs.map_keep.MapKeepKeep.put.Goals as goal

pub returns-in-Err-clause-answer : goal.returns-in-Err-clause-answer
returns-in-Err-clause-answer c =
    let shows = shows_of c.self.invariant.0 c.self.view_is in
    let needed = c.needed-needed.ensures.value ∙ sym (shown_needed c.args.id.now c.args.bytes.now shows) in
    let within = rw (← shown_cost shows) at c.self.invariant.2 in
    let full = answer_full _ true _ _ _ _ c.in-Err.full within needed (sym c.room.ensures ∙ c.in-Err.is) in
    let P = λ (l : Option ℕ). IsPutAnswer l true c.args.self.now.contents c.args.id.now c.args.bytes.now
    (Err c.in-Err.full) in
    subst P (ap (λ s. s.limit) c.self.view_is) full

pub returns-in-Ok-store-clause-answer : goal.returns-in-Ok-store-clause-answer
returns-in-Ok-store-clause-answer c =
    let shows = shows_of c.self.invariant.0 c.self.view_is in
    let needed = c.needed-needed.ensures.value ∙ sym (shown_needed c.args.id.now c.args.bytes.now shows) in
    let within = rw (← shown_cost shows) at c.self.invariant.2 in
    let room = answer_room _ _ _ within (has_room _ _ (sym c.room.ensures ∙ c.in-Ok.is)) in
    rw (ap (λ s. s.limit) c.self.view_is, needed) at room

pub returns-in-Ok-store-clause-stored : goal.returns-in-Ok-store-clause-stored
returns-in-Ok-store-clause-stored c =
    let shows = shows_of c.self.invariant.0 c.self.view_is in
    let bytes = c.from_vec.ensures ∙ c.in-Ok-from_slice.ensures.items in
    shown_put c.args.id.now shows c.args.part c.args.bytes.now (rw bytes at c.in-Ok-store.ensures.stored)

pub invariant_of-self-in-Ok-store : goal.invariant_of-self-in-Ok-store
invariant_of-self-in-Ok-store c =
    let es = c.self.inside.holdings.entries in
    let shows = shows_of c.self.invariant.0 c.self.view_is in
    let absent = sym (shown_held c.args.id.now c.args.part shows) ∙ c.requires.absent in
    let stored = rw (c.from_vec.ensures ∙ c.in-Ok-from_slice.ensures.items) at c.in-Ok-store.ensures.stored in
    let change : cost_in c.store.new.holdings.entries + 0 ≡ cost_in es + c.needed-needed.result =
    omega (arith, ap cost_in stored, put_cost es c.args.id.now c.args.part c.args.bytes.now c.self.invariant.0 absent, c.needed-needed.ensures.value) in
    let fits = recharge_more _ _ _ c.self.invariant.2 (has_room _ _ (sym c.room.ensures ∙ c.in-Ok.is)) in
    let budget =
    recharged_within _ _ _ _ 0 c.needed-needed.result c.self.invariant.2 c.recharged-self-inside.ensures change fits in
    let kept = rw (← stored) at (kept_put _ c.args.id.now c.args.part c.args.bytes.now c.self.invariant.3) in
    search (arith, budget, kept, c.store.ensures, c.len.ensures.len)
