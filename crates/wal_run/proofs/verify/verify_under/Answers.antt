use Rattle.wal_run.proofs.Common.{arith, inl, refl, metadata_shown, HasShard, recorded, lacks}
use Rattle.wal_run.proofs.Says.{no_memory, says_as}
use Rattle.wal_run.proofs.Verifications.{verdict_as}
use Rattle.wal_run.proofs.verify.verify_under.Goals as goal

pub returns-then-from-n : goal.returns-then-from-n
returns-then-from-n g c = λ other.
    lacks _ (inl (omega (arith, rw c.shape.ensures.value at c.n.ensures.value, c.from.ensures, c.if-from-n.true), refl))

pub returns-in_err-claims : goal.returns-in_err-claims
returns-in_err-claims g c = no_memory _ _ c.from_residual.ensures.1

pub returns : goal.returns
returns g c =
    let r = recorded c.args.payloads.now (metadata_shown c.args.m) in
    let has : HasShard c.args.audit.now r = omega (arith, rw c.shape.ensures.value at c.n.ensures.value, c.from.ensures, c.if-from-n.false) in
    let come = rw c.in_ok-claims.ensures at c.check_answer-verdict.ensures.verdict in
    says_as _ _ _ c.verdict_answer.ensures (λ s text p. verdict_as g.H.Hash32.digest c.args.audit.now r has c.check_answer-verdict.result s text come p.0 p.1)
