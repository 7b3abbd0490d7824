use Rattle.wal_serve.proofs.Common.{Registered, served}
use Rattle.wal_serve.proofs.AnswerLaws.{entry_row}
use Rattle.wal_serve.proofs.session.Session.register.Goals as goal

pub returns-clause-gives : goal.returns-clause-gives
returns-clause-gives g c =
    let s = served c.args.self.now in
    entry_row (Registered s.ledger c.args.id.now c.args.until) s c.register_reply.result c.register.new.self.ledger (c.register.result, c.register.ensures.answer, c.register_reply.ensures.value)
