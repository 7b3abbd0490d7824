use Rattle.wal_serve.proofs.Common.{Ok, arith, read_of, ServedState, AnswersRequest, AnswersInto, served}
use Rattle.wal_serve.proofs.AnswerLaws.{looked_into, overlong_into, read_stops, says_row}
use Rattle.wal_serve.proofs.session.Session.answer_in.Goals as goal

pub returns-then-size-room-clause-answers : goal.returns-then-size-room-clause-answers
returns-then-size-room-clause-answers g c =
    let Table = AnswersRequest g.H.Hash32.digest g.K.Keep.may_want in
    says_row _ c.index.result c.args.out.now _ (AnswersInto Table c.args.buffer.now c.args.size) (served c.args.self.now) _ (Ok c.unfit.result) _
    (overlong_into ServedState Table c.args.buffer.now c.args.size (served c.args.self.now) c.unfit.result c.unfit.ensures.value (omega (arith, c.if-size-room.true, c.room.ensures)))
    c.write_outcome.ensures.clash c.index.ensures.value c.write_outcome.ensures.written c.write_outcome.ensures.fits

pub returns-clause-answers : goal.returns-clause-answers
returns-clause-answers g c =
    let s = c.answer.ensures.answers in (
      s.0,
      (
        looked_into ServedState (AnswersRequest g.H.Hash32.digest g.K.Keep.may_want) c.args.buffer.now c.bytes.result.now c.args.size (served c.args.self.now) _ s.0 c.answer.result
            (omega (arith, c.if-size-room.false, c.room.ensures)) c.bytes.ensures.value s.1,
        read_stops g.H.Hash32.digest g.K.Keep.may_want (read_of c.bytes.result.now) (served c.args.self.now) _ s.0 c.answer.result s.1,
      ),
      s.2,
    )
