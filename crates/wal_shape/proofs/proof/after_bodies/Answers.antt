use Rattle.wal_shape.proofs.Common.{sym, ◌∙◌}
use Rattle.wal_shape.proofs.ProofLaws.{bodies_end-next, bodies_end-done}
use Rattle.wal_shape.proofs.proof.after_bodies.Goals as goal

pub returns-in-Err : goal.returns-in-Err
returns-in-Err c =
    sym (bodies_end-next c.args.count c.loop.counter c.loop.rest.now _ c.loop-test.true c.in-Err.ensures) ∙ c.loop.invariant

pub loop-preserved : goal.loop-preserved
loop-preserved c =
    sym (bodies_end-next c.args.count c.loop.counter c.loop.rest.now _ c.loop-test.true c.in-Ok.ensures) ∙ c.loop.invariant

pub returns : goal.returns
returns c = sym (bodies_end-done c.args.count c.loop.counter c.loop.rest.now c.loop-test.false) ∙ c.loop.invariant
