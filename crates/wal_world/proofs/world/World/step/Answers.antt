use Rattle.wal_world.proofs.Worlds.{stepped}
use Rattle.wal_world.proofs.world.World.step.Goals as goal

pub invariant_of-self : goal.invariant_of-self
invariant_of-self g c =
    (stepped g.H.Hash32.digest g.met.H.Hash32.size c.self.inside.network c.self.inside.dead c.self.inside.ended c.args.self.now c.args.event.now c.in-Ok.line c.take.new.self c.self.view_is c.self.invariant
    c.if-self.false c.requires.fits c.in-Ok.ensures.step c.in-Ok.ensures.network).0

pub returns-in-Ok-clause-f : goal.returns-in-Ok-clause-f
returns-in-Ok-clause-f g c =
    (stepped g.H.Hash32.digest g.met.H.Hash32.size c.self.inside.network c.self.inside.dead c.self.inside.ended c.args.self.now c.args.event.now c.in-Ok.line c.take.new.self c.self.view_is c.self.invariant
    c.if-self.false c.requires.fits c.in-Ok.ensures.step c.in-Ok.ensures.network).1

pub returns-in-Ok-clause-facts : goal.returns-in-Ok-clause-facts
returns-in-Ok-clause-facts g c =
    (stepped g.H.Hash32.digest g.met.H.Hash32.size c.self.inside.network c.self.inside.dead c.self.inside.ended c.args.self.now c.args.event.now c.in-Ok.line c.take.new.self c.self.view_is c.self.invariant
    c.if-self.false c.requires.fits c.in-Ok.ensures.step c.in-Ok.ensures.network).0.facts c.if-self.false
