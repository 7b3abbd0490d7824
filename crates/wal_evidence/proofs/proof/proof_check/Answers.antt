use Rattle.wal_evidence.proofs.Common.{rules, metadata_shown, proof_shown, Repeated}
use Rattle.wal_evidence.proofs.OneCheck.{one_check}
use Rattle.wal_evidence.proofs.proof.proof_check.Goals as goal

pub returns-then-not-are_distinct-clause-only : goal.returns-then-not-are_distinct-clause-only
returns-then-not-are_distinct-clause-only g c = λ other is.
    one_check g.H.Hash32.digest (metadata_shown c.args.m) (proof_shown c.args.p.now) c.shape.ensures.metadata.shape
    other Repeated is (search rules)

pub returns-clause-only : goal.returns-clause-only
returns-clause-only g c = λ other is.
    one_check g.H.Hash32.digest (metadata_shown c.args.m) (proof_shown c.args.p.now) c.shape.ensures.metadata.shape other c.check_openings.result is
    c.check_openings.ensures.checks
