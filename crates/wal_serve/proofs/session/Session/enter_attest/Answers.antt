use Rattle.wal_serve.proofs.Common.{Denies, served}
use Rattle.wal_serve.proofs.AnswerLaws.{entered_in, entered_none}
use Rattle.wal_serve.proofs.session.Session.enter_attest.Goals as goal

pub returns-then-not-is_shard-clause-gives : goal.returns-then-not-is_shard-clause-gives
returns-then-not-is_shard-clause-gives g c =
    entered_none Denies (served c.args.self.now) c.args.shard c.args.id.now _ c.unfit.ensures.value
    (c.is_shard.ensures.not c.if-not-is_shard.true)

pub returns-clause-gives : goal.returns-clause-gives
returns-clause-gives g c =
    entered_in Denies (served c.args.self.now) c.args.shard c.args.id.now c.attest_reply.result c.attest.new.self.ledger
    (c.is_shard.ensures.is c.if-not-is_shard.false) (c.attest.result, c.attest.ensures.answer, c.attest_reply.ensures.value)
