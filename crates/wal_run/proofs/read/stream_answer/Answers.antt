use Rattle.wal_run.proofs.Readings.{outcome_as}
use Rattle.wal_run.proofs.Says.{says_as}
use Rattle.wal_run.proofs.read.stream_answer.Goals as goal

pub returns-in-Ok : goal.returns-in-Ok
returns-in-Ok g c = λ id stream finishes.
    let read = rw c.in-Ok.is at finishes in
    says_as _ _ _ c.outcome_answer.ensures (λ s text p.
    outcome_as g.H.Hash32.digest id stream read.payloads s text read.whole c.in-Ok.answer.outcome read.is.0 p.0 p.1)

pub returns-in-Err : goal.returns-in-Err
returns-in-Err g c = λ id stream finishes. c.refusal_of.ensures id stream (rw c.in-Err.is at finishes)
