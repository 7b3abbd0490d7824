use Rattle.wal_serve.proofs.Common.{Holds, served}
use Rattle.wal_serve.proofs.AnswerLaws.{entered_in, entered_none}
use Rattle.wal_serve.proofs.session.Session.enter_ack.Goals as goal

pub returns-then-not-is_shard-clause-gives : goal.returns-then-not-is_shard-clause-gives
returns-then-not-is_shard-clause-gives g c =
    entered_none Holds (served c.args.self.now) c.args.shard c.args.id.now _ c.unfit.ensures.value
    (c.is_shard.ensures.not c.if-not-is_shard.true)

pub returns-clause-gives : goal.returns-clause-gives
returns-clause-gives g c =
    entered_in Holds (served c.args.self.now) c.args.shard c.args.id.now c.ack_reply.result c.ack.new.self.ledger
    (c.is_shard.ensures.is c.if-not-is_shard.false) (c.ack.result, c.ack.ensures.answer, c.ack_reply.ensures.value)
