use Rattle.wal_run.proofs.Common.{challenging, performed}
use Rattle.wal_run.proofs.Says.{broken, performs_refused}
use Rattle.wal_run.proofs.challenge.challenge_shard.Goals as goal

pub returns-in-Ok-clause-does : goal.returns-in-Ok-clause-does
returns-in-Ok-clause-does g c = c.challenge_in.ensures.does c.args.stream.now c.in-Ok.ensures.payloads

pub returns-in-Err-clause-does : goal.returns-in-Err-clause-does
returns-in-Err-clause-does g c =
    performed _ (performs_refused _ _
    (broken g.H.Hash32.digest (challenging g.H.Hash32.digest c.args.audit.now) c.args.stream.now _ (λ text is. is) c.in-Err.ensures.refusal) c.refuse.ensures.performs)
