use Rattle.wal_erasure.proofs.Common.{add-one, drop-cons, drop_of_length-le, is_known, length, sym, ◌∙◌, ◌≤◌}
use Rattle.wal_erasure.proofs.LocatorLaws.{is_known-first, is_known-rest}
use Rattle.wal_erasure.proofs.locator.is_among.Goals as goal

pub returns-then-q-point : goal.returns-then-q-point
returns-then-q-point c =
    let here = drop-cons c.args.known.now c.loop-q.q-index 0 c.loop-q-test.true in
    sym (is_known-first _ _ _ c.if-q-point.true) ∙ rw here at c.loop-q.invariant

pub loop-q-preserved : goal.loop-q-preserved
loop-q-preserved c =
    let here = drop-cons c.args.known.now c.loop-q.q-index 0 c.loop-q-test.true in
    rw add-one (sym (is_known-rest _ _ _ c.if-q-point.false) ∙ rw here at c.loop-q.invariant)

pub returns : goal.returns
unfolding is_known
returns c = let past : length c.args.known.now ≤ c.loop-q.q-index = c.loop-q-test.false in rw drop_of_length-le at c.loop-q.invariant
