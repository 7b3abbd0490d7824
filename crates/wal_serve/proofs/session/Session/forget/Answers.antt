use Rattle.wal_serve.proofs.Common.{served}
use Rattle.wal_serve.proofs.AnswerLaws.{forgets_done, forgets_not}
use Rattle.wal_serve.proofs.session.Session.forget.Goals as goal

pub returns-in-Ok-clause-gives : goal.returns-in-Ok-clause-gives
returns-in-Ok-clause-gives g c =
    forgets_done (served c.args.self.now) c.ledger.result.now _ c.args.id.now _ c.ledger.ensures.value c.in-Ok.ensures.may c.done.ensures.value c.in-Ok.ensures.gone

pub returns-in-Err-clause-gives : goal.returns-in-Err-clause-gives
returns-in-Err-clause-gives g c =
    forgets_not (served c.args.self.now) c.ledger.result.now _ c.args.id.now _ c.ledger.ensures.value c.in-Err.ensures.declined c.refused.ensures.value c.in-Err.ensures.stays
