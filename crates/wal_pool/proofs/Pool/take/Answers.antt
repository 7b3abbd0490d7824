use Rattle.wal_pool.proofs.Common.{◌∙◌, refl, ap, rules, length, length-set, next}
use Rattle.wal_pool.proofs.PoolLaws.{took, pages_whole}
use Rattle.wal_pool.proofs.Pool.take.Goals as goal

pub invariant_of-self : goal.invariant_of-self
invariant_of-self c =
    let i = c.self.inside in
    let t = took 4096 i.pages i.region.items i.free i.first c.number_at-self-inside.result c.args.self.now
    (record { large = c.self.invariant.0; listed = c.self.invariant.2; counted = c.self.invariant.3 }) c.if-self-eq0.false
    (c.number_at-self-inside.ensures ∙ ap (λ r. next 4096 r i.first) c.deref.ensures.value) c.self.view_is in
    (t.sound.large, c.self.invariant.1, t.sound.listed, t.sound.counted)

pub returns : goal.returns
returns c =
    let i = c.self.inside in
    let t = took 4096 i.pages i.region.items i.free i.first c.number_at-self-inside.result c.args.self.now
    (record { large = c.self.invariant.0; listed = c.self.invariant.2; counted = c.self.invariant.3 }) c.if-self-eq0.false
    (c.number_at-self-inside.ensures ∙ ap (λ r. next 4096 r i.first) c.deref.ensures.value) c.self.view_is in
    record { found = t.was; taken = t.now; own = t.own; size = t.long; none = search rules; same = search rules; pages = ap length t.now ∙ length-set _ _ _; whole = pages_whole 4096 i.pages i.region.items _ _ _ t.sound.large refl }

pub returns-then-self-eq0-clause-whole : goal.returns-then-self-eq0-clause-whole
returns-then-self-eq0-clause-whole c =
    let i = c.self.inside in
    pages_whole 4096 i.pages i.region.items i.free i.first _ c.self.invariant.0 c.self.view_is
