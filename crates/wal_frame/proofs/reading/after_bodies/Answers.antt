use Rattle.wal_frame.proofs.Common.{sym, ◌∙◌, arith}
use Rattle.wal_frame.proofs.KindLaws.{bodies_next, bodies_done}
use Rattle.wal_frame.proofs.reading.after_bodies.Goals as goal

pub returns-in-Err : goal.returns-in-Err
returns-in-Err c =
    sym c.loop.invariant.same
    ∙ bodies_next c.args.count c.loop.counter c.loop.place c.loop.rest.now _ c.loop-test.true c.in-Err.ensures.read

pub loop-preserved : goal.loop-preserved
loop-preserved c =
    let next =
    bodies_next c.args.count c.loop.counter c.loop.place c.loop.rest.now _ c.loop-test.true c.in-Ok.ensures.read in
    record {
      most = omega (arith, c.loop.invariant.most, c.body_size-place.ensures.most);
      same = rw (c.body_size-place.ensures.size, ← next) c.loop.invariant.same;
    }

pub returns : goal.returns
returns c = sym c.loop.invariant.same ∙ bodies_done c.args.count c.loop.counter c.loop.place c.loop.rest.now c.loop-test.false
