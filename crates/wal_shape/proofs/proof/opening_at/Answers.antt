use Rattle.wal_shape.proofs.Common.{[], opening_shown}
use Rattle.wal_shape.proofs.BodyLaws.{body_taken}
use Rattle.wal_shape.proofs.ProofLaws.{bodies_end-before, body_at-before, read_opening}
use Rattle.wal_shape.proofs.proof.opening_at.Goals as goal

pub unreachable-requires : goal.unreachable-requires
unreachable-requires c = body_at-before c.args.place c.args.count c.args.bodies.now [] c.in-Some.rest.now c.in-Err.field-0 c.requires.place c.requires.bodies c.in-Some.ensures c.in-Err.ensures

pub unreachable-requires-in-None : goal.unreachable-requires-in-None
unreachable-requires-in-None c = bodies_end-before c.args.place c.args.count c.args.bodies.now [] c.requires.place c.requires.bodies c.in-None.ensures

pub returns-clause-opening : goal.returns-clause-opening
returns-clause-opening c = read_opening c.args.place c.args.count c.args.bodies.now [] c.in-Some.rest.now (opening_shown c.in-Ok.opening, c.in-Ok.field-0-1.now) c.requires.place c.requires.bodies c.in-Some.ensures c.in-Ok.ensures

pub returns-clause-body : goal.returns-clause-body
returns-clause-body c = (body_taken c.in-Some.rest.now (opening_shown c.in-Ok.opening, c.in-Ok.field-0-1.now) c.in-Ok.ensures).0
