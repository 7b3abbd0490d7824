use Rattle.wal_run.proofs.Common.{metadata_shown, recorded, recovering}
use Rattle.wal_run.proofs.Says.{broken, passed, says_told, unrecorded}
use Rattle.wal_run.proofs.recover.recover_sliver.Goals as goal

pub returns-in_err-payloads : goal.returns-in_err-payloads
returns-in_err-payloads g c =
    passed _ _ _ c.from_residual.ensures.1 (broken g.H.Hash32.digest (recovering g.H.Hash32.digest c.args.id.now c.args.axis c.args.index) c.args.stream.now _ (λ text is. is) c.in_err-payloads.ensures.refusal)

pub returns-in_err-m : goal.returns-in_err-m
returns-in_err-m g c =
    passed _ _ _ c.from_residual-in_err-m.ensures.1
    (unrecorded g.H.Hash32.digest (recovering g.H.Hash32.digest c.args.id.now c.args.axis c.args.index) c.args.stream.now _ (c.in_err-m.ensures.refusal c.args.stream.now c.in_ok-payloads.ensures.payloads))

pub returns : goal.returns
returns g c =
    says_told _ _ _ (recorded c.in_ok-payloads.payloads (metadata_shown c.in_ok-m.m)) _ (c.in_ok-payloads.ensures.payloads, c.in_ok-m.ensures.one) c.recover_under.ensures
