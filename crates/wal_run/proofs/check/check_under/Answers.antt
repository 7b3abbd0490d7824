use Rattle.wal_run.proofs.Common.{inl, refl, metadata_shown, recorded, lacks}
use Rattle.wal_shape.specs.ProofRef.{proof_shown}
use Rattle.wal_run.proofs.Checks.{judged_is}
use Rattle.wal_run.proofs.Says.{no_memory}
use Rattle.wal_run.proofs.check.check_under.Goals as goal

pub returns-in_default : goal.returns-in_default
returns-in_default g c = λ other. lacks _ (inl (c.in_default.ensures.none, refl))

pub returns-in_err-work : goal.returns-in_err-work
returns-in_err-work g c = no_memory _ _ c.from_residual.ensures.1

pub returns : goal.returns
returns g c = λ other.
    judged_is g.H.Hash32.digest c.args.id.now (recorded c.args.payloads.now (metadata_shown c.args.m)) (proof_shown c.in-Some.proof) c.in-Some.ensures.first
    c.proof_check.result c.proof_check.ensures.checks
