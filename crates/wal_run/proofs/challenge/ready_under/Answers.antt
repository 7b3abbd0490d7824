use Rattle.wal_run.proofs.Common.{arith, inl, refl, lacks}
use Rattle.wal_run.proofs.challenge.ready_under.Goals as goal

pub returns-then-from-n-clause-refusal : goal.returns-then-from-n-clause-refusal
returns-then-from-n-clause-refusal g c = λ other.
    lacks _ (inl (omega (arith, rw c.shape.ensures.value at c.n.ensures.value, c.from.ensures, c.if-from-n.true), refl))
