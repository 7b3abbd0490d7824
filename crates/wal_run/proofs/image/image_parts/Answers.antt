use Rattle.wal_run.proofs.Common.{imaging}
use Rattle.wal_run.proofs.Says.{broken, passed, says_told}
use Rattle.wal_run.proofs.image.image_parts.Goals as goal

pub returns-in_err-payloads : goal.returns-in_err-payloads
returns-in_err-payloads g c =
    passed _ _ _ c.from_residual.ensures.1 (broken g.H.Hash32.digest (imaging g.H.Hash32.digest c.args.size) c.args.stream.now _ (λ text is. is) c.in_err-payloads.ensures.refusal)

pub returns : goal.returns
returns g c = says_told g.H.Hash32.digest (imaging g.H.Hash32.digest c.args.size) c.args.stream.now c.in_ok-payloads.payloads _ c.in_ok-payloads.ensures.payloads c.make_image.ensures
