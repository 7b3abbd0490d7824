use Rattle.wal_run.proofs.Common.{bundling}
use Rattle.wal_run.proofs.Says.{broken, passed, says_told}
use Rattle.wal_run.proofs.bundle.bundle_members.Goals as goal

pub returns-in_err-members : goal.returns-in_err-members
returns-in_err-members g c =
    passed _ _ _ c.from_residual.ensures.1 (broken g.H.Hash32.digest (bundling c.args.faults) c.args.stream.now _ (λ text is. is) c.in_err-members.ensures.refusal)

pub returns : goal.returns
returns g c = says_told g.H.Hash32.digest (bundling c.args.faults) c.args.stream.now c.in_ok-members.members _ c.in_ok-members.ensures.payloads c.bundled.ensures
