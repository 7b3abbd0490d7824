use Rattle.wal_serve.proofs.Common.{frame_shown, served}
use Rattle.wal_serve.proofs.AnswerLaws.{gives_put}
use Rattle.wal_serve.proofs.session.Session.put.Goals as goal

pub returns-clause-gives : goal.returns-clause-gives
returns-clause-gives g c =
    gives_put g.H.Hash32.digest g.K.Keep.may_want (served c.args.self.now) c.ledger.result.now _ (frame_shown c.args.frame.now) c.put.result _ c.ledger.ensures.value
    (c.put.ensures.puts c.requires.part) c.put_reply.ensures.value c.put.ensures.texts c.put.ensures.place
