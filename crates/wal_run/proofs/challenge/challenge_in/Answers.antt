use Rattle.wal_run.proofs.Common.{metadata_shown, challenging, recorded, performed}
use Rattle.wal_run.proofs.Challenges.{answered_so}
use Rattle.wal_run.proofs.Says.{performs_refused, unrecorded}
use Rattle.wal_run.proofs.challenge.challenge_in.Goals as goal

pub returns-in-Ok-clause-does : goal.returns-in-Ok-clause-does
returns-in-Ok-clause-does g c = λ input is.
    answered_so g.H.Hash32.digest c.args.audit.now (recorded c.args.payloads.now (metadata_shown c.in-Ok.m)) input _ _ _ _ (is, c.in-Ok.ensures.one) c.challenge_under.ensures.does

pub returns-in-Err-clause-does : goal.returns-in-Err-clause-does
returns-in-Err-clause-does g c = λ input is.
    let a = c.args.audit.now in
    performed _ (performs_refused _ _
    (unrecorded g.H.Hash32.digest (challenging g.H.Hash32.digest a) input _ (c.in-Err.ensures.refusal input is)) c.refuse.ensures.performs)
