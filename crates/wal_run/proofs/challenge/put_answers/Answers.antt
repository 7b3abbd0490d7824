-- One opening more is written, one is not written whole, or all are.
use Rattle.wal_run.proofs.Common.{refl, arith, rose_since}
use Rattle.wal_run.proofs.Challenges.{answered_all, answered_more, answered_none, ends_piece}
use Rattle.wal_run.proofs.challenge.put_answers.Goals as goal

pub each-init : goal.each-init
each-init g c = record { so = λ primary secondary are. answered_none _ _ _ primary secondary _; buffer = refl; later = omega arith }

pub returns-in-Err-clause-does : goal.returns-in-Err-clause-does
returns-in-Err-clause-does g c = λ primary secondary are.
    let so = c.each.invariant.so primary secondary are in
    rw c.status_of.ensures (ends_piece _ _ _ primary secondary _ c.each.d _ so c.each-test.true _ _ _ (rose_since _ _ _ c.each.invariant.later) c.in-Err.error
    (c.in-Err.ensures.puts primary secondary are))

pub each-preserved : goal.each-preserved
each-preserved g c = record {
  so = λ primary secondary are.
      let put = c.in_default.ensures.puts primary secondary are in
      answered_more _ _ _ primary secondary _ c.each.d _ (c.each.invariant.so primary secondary are) _ put.0 put.1 put.2;
  buffer = omega (arith, c.each.invariant.buffer, c.put_answer.ensures.buffer);
  later = omega (arith, c.each.invariant.later, c.put_answer.ensures.later);
}

pub returns-clause-does : goal.returns-clause-does
returns-clause-does g c = λ primary secondary are.
    answered_all _ _ _ primary secondary _ c.each.d _ (c.each.invariant.so primary secondary are) (omega (arith, c.each-test.false, c.each.auto.d-end)) _
