use Rattle.wal_serve.proofs.Common.{Denies, served}
use Rattle.wal_serve.proofs.AnswerLaws.{vouched_not, vouched}
use Rattle.wal_serve.proofs.session.Session.attest.Goals as goal

pub returns-in-Ok-clause-gives : goal.returns-in-Ok-clause-gives
returns-in-Ok-clause-gives g c =
    vouched Denies (served c.args.self.now) c.ledger.result.now _ c.args.id.now c.index.result c.attest_reply.result c.ledger.ensures.value
    c.index.ensures.value c.in-Ok.ensures (c.attest-in-Ok.result, c.attest-in-Ok.ensures.answer, c.attest_reply.ensures.value)

pub returns-in-Err-clause-gives : goal.returns-in-Err-clause-gives
returns-in-Err-clause-gives g c =
    vouched_not Denies (served c.args.self.now) c.ledger.result.now c.args.id.now c.in-Err.refusal _ c.ledger.ensures.value
    c.in-Err.ensures c.refusal_reply.ensures.value
