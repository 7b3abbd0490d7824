use Rattle.wal_serve.proofs.Common.{Ok, read_of, AnswersRead, served}
use Rattle.wal_serve.proofs.AnswerLaws.{fault_row, says_row}
use Rattle.wal_serve.proofs.session.Session.answer.Goals as goal

pub returns-in-Err-clause-answers : goal.returns-in-Err-clause-answers
returns-in-Err-clause-answers g c =
    let read = read_of c.args.payload.now in
    says_row _ c.index.result c.args.out.now _ (AnswersRead g.H.Hash32.digest g.K.Keep.may_want read) (served c.args.self.now) _ (Ok c.malformed.result) _
    (fault_row g.H.Hash32.digest g.K.Keep.may_want read c.in-Err.fault (served c.args.self.now) c.malformed.result c.in-Err.ensures.exact c.malformed.ensures.value)
    c.write_outcome.ensures.clash c.index.ensures.value c.write_outcome.ensures.written c.write_outcome.ensures.fits
