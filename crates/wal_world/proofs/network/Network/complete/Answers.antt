use Rattle.wal_world.proofs.Common.{ℕ, Some, sym, ap, subst, id_cmp, First, verdict_of, IsBackedBy, world_of, FinMap}
use Rattle.wal_world.proofs.Firsts.{found, compared_is, no_first, new_first}
use Rattle.wal_world.proofs.network.Network.complete.Goals as goal

pub compare-clash-requires-clause-one : goal.compare-clash-requires-clause-one
compare-clash-requires-clause-one g c =
    subst (λ (f : ℕ). IsBackedBy g.H.Hash32.digest f c.args.id.now c.in-Some.first.now) (sym c.f-f.ensures.value)
    (c.requires.backed c.args.id.now c.in-Some.first.now (found c.args.self.now.answers c.args.id.now (Some c.in-Some.first.now) c.requires.network.ordered c.in-Some.ensures.value))

pub compare-clash-requires-clause-other : goal.compare-clash-requires-clause-other
compare-clash-requires-clause-other g c =
    subst (λ (f : ℕ). IsBackedBy g.H.Hash32.digest f c.args.id.now c.args.answer) (sym c.f-f.ensures.value) c.requires.answer

pub returns-in-Some-clause-compared : goal.returns-in-Some-clause-compared
returns-in-Some-clause-compared g c =
    compared_is g.H.Hash32.digest (world_of c.args.self.now) c.args.id.now c.args.answer c.in-Some.first.now c.compare-clash.result
    (found c.args.self.now.answers c.args.id.now (Some c.in-Some.first.now) c.requires.network.ordered c.in-Some.ensures.value) c.compare-clash.ensures.same c.compare-clash.ensures.collides

pub returns-in-Ok-clause-compared : goal.returns-in-Ok-clause-compared
returns-in-Ok-clause-compared g c = (
  no_first c.args.self.now.answers c.args.id.now (verdict_of c.args.answer) c.requires.network.ordered c.in_default.ensures.value,
  ap (λ (m : FinMap id_cmp First). record (world_of c.args.self.now) { answers = m })
      (new_first c.args.self.now.answers c.insert.new.self c.args.id.now c.args.answer c.requires.network.ordered c.in_default.ensures.value c.in-Ok.ensures.entries),
)
