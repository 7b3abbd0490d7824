use Rattle.wal_store.proofs.Common.{◌∙◌, sym, refl, arith, Contents}
use Rattle.wal_store.proofs.RetainLaws.{none_passed, next_passed, none_next, all_passed, all_to_come}
use Rattle.wal_store.proofs.choice.retain.Goals as goal

pub loop-init : goal.loop-init
loop-init g c =
    let old : Contents = g.K.Keep.contents c.args.keep.now in
    record {
      passed = none_passed _ old;
      few = omega (arith, all_to_come old, c.count-end.ensures.value);
      limit = refl;
    }

pub loop-preserved : goal.loop-preserved
loop-preserved g c =
    let next = sym c.in-Some.is ∙ c.next_id.ensures.value in
    let step = next_passed _ _ _ _ _ c.in-Some.id c.loop.invariant.passed next c.drop_unchosen.ensures.kept in
    record {
      passed = step.0;
      few = omega (arith, step.1, c.loop.invariant.few);
      limit = c.drop_unchosen.ensures.limit ∙ c.loop.invariant.limit;
    }

pub returns-in-None-clause-retained : goal.returns-in-None-clause-retained
returns-in-None-clause-retained g c =
    none_next _ _ _ _ c.loop.invariant.passed (sym c.in-None.is ∙ c.next_id.ensures.value)

pub returns-clause-retained : goal.returns-clause-retained
returns-clause-retained g c =
    all_passed _ _ _ _ c.loop.invariant.passed (omega (arith, c.loop.invariant.few, c.loop-test.false))
