use Rattle.wal_evidence.proofs.Common.{sym, Inconsistent}
use Rattle.wal_evidence.proofs.proof.is_bad_proof.Goals as goal

pub returns-clause-bad : goal.returns-clause-bad
returns-clause-bad g c = (
  λ yes. rw (c.is_inconsistent.ensures.0 yes) at c.proof_check.ensures.checks,
  λ bad. c.is_inconsistent.ensures.1 (sym (c.proof_check.ensures.only Inconsistent bad)),
)
