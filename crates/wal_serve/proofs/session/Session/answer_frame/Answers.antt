use Rattle.wal_serve.proofs.Common.{Ok, ap, frame_shown, AnswersFrame, served, Frame}
use Rattle.wal_serve.proofs.AnswerLaws.{at_frame, put_row, refused_row, says_row}
use Rattle.wal_serve.proofs.session.Session.answer_frame.Goals as goal

pub returns-in-Metadata-clause-answers : goal.returns-in-Metadata-clause-answers
returns-in-Metadata-clause-answers g c =
    says_row _ c.index-own.result c.args.out.now _ (AnswersFrame g.H.Hash32.digest g.K.Keep.may_want (frame_shown c.args.frame.now)) (served c.args.self.now) (served c.put.new.self) c.put.result _
    (put_row g.H.Hash32.digest g.K.Keep.may_want (frame_shown c.args.frame.now) _ _ _ _ c.put.ensures.part c.put.ensures.gives)
    c.write_outcome.ensures.clash c.index-own.ensures.value c.write_outcome.ensures.written c.write_outcome.ensures.fits

pub returns-in-Ack-clause-answers : goal.returns-in-Ack-clause-answers
returns-in-Ack-clause-answers g c =
    says_row _ c.index-own.result c.args.out.now _ (AnswersFrame g.H.Hash32.digest g.K.Keep.may_want (frame_shown c.args.frame.now)) (served c.args.self.now) (served c.acknowledge.new.self) (Ok c.acknowledge.result) _
    (at_frame g.H.Hash32.digest g.K.Keep.may_want _ (Frame.Ack c.in-Ack.id.0) _ _ _ _ (ap frame_shown c.in-Ack.is) c.acknowledge.ensures.gives)
    c.write_outcome-in-Ack.ensures.clash c.index-own.ensures.value c.write_outcome-in-Ack.ensures.written c.write_outcome-in-Ack.ensures.fits

pub returns-in-Attest-clause-answers : goal.returns-in-Attest-clause-answers
returns-in-Attest-clause-answers g c =
    says_row _ c.index-own.result c.args.out.now _ (AnswersFrame g.H.Hash32.digest g.K.Keep.may_want (frame_shown c.args.frame.now)) (served c.args.self.now) (served c.attest.new.self) (Ok c.attest.result) _
    (at_frame g.H.Hash32.digest g.K.Keep.may_want _ (Frame.Attest c.in-Attest.id.0) _ _ _ _ (ap frame_shown c.in-Attest.is) c.attest.ensures.gives)
    c.write_outcome-in-Attest.ensures.clash c.index-own.ensures.value c.write_outcome-in-Attest.ensures.written c.write_outcome-in-Attest.ensures.fits

pub returns-in-Forget-clause-answers : goal.returns-in-Forget-clause-answers
returns-in-Forget-clause-answers g c =
    says_row _ c.index-own.result c.args.out.now _ (AnswersFrame g.H.Hash32.digest g.K.Keep.may_want (frame_shown c.args.frame.now)) (served c.args.self.now) (served c.forget.new.self) (Ok c.forget.result) _
    (at_frame g.H.Hash32.digest g.K.Keep.may_want _ (Frame.Forget c.in-Forget.id.0) _ _ _ _ (ap frame_shown c.in-Forget.is) c.forget.ensures.gives)
    c.write_outcome-in-Forget.ensures.clash c.index-own.ensures.value c.write_outcome-in-Forget.ensures.written c.write_outcome-in-Forget.ensures.fits

pub returns-in-RegisterEntry-clause-answers : goal.returns-in-RegisterEntry-clause-answers
returns-in-RegisterEntry-clause-answers g c =
    says_row _ c.index-own.result c.args.out.now _ (AnswersFrame g.H.Hash32.digest g.K.Keep.may_want (frame_shown c.args.frame.now)) (served c.args.self.now) (served c.register.new.self) (Ok c.register.result) _
    (at_frame g.H.Hash32.digest g.K.Keep.may_want _ (Frame.RegisterEntry c.in-RegisterEntry.id.0 c.in-RegisterEntry.until) _ _ _ _ (ap frame_shown c.in-RegisterEntry.is) c.register.ensures.gives)
    c.write_outcome-in-RegisterEntry.ensures.clash c.index-own.ensures.value c.write_outcome-in-RegisterEntry.ensures.written c.write_outcome-in-RegisterEntry.ensures.fits

pub returns-in-AckEntry-clause-answers : goal.returns-in-AckEntry-clause-answers
returns-in-AckEntry-clause-answers g c =
    says_row _ c.index-own.result c.args.out.now _ (AnswersFrame g.H.Hash32.digest g.K.Keep.may_want (frame_shown c.args.frame.now)) (served c.args.self.now) (served c.enter_ack.new.self) (Ok c.enter_ack.result) _
    (at_frame g.H.Hash32.digest g.K.Keep.may_want _ (Frame.AckEntry c.in-AckEntry.shard c.in-AckEntry.id.0) _ _ _ _ (ap frame_shown c.in-AckEntry.is) c.enter_ack.ensures.gives)
    c.write_outcome-in-AckEntry.ensures.clash c.index-own.ensures.value c.write_outcome-in-AckEntry.ensures.written c.write_outcome-in-AckEntry.ensures.fits

pub returns-in-AttestEntry-clause-answers : goal.returns-in-AttestEntry-clause-answers
returns-in-AttestEntry-clause-answers g c =
    says_row _ c.index-own.result c.args.out.now _ (AnswersFrame g.H.Hash32.digest g.K.Keep.may_want (frame_shown c.args.frame.now)) (served c.args.self.now) (served c.enter_attest.new.self) (Ok c.enter_attest.result) _
    (at_frame g.H.Hash32.digest g.K.Keep.may_want _ (Frame.AttestEntry c.in-AttestEntry.shard c.in-AttestEntry.id.0) _ _ _ _ (ap frame_shown c.in-AttestEntry.is) c.enter_attest.ensures.gives)
    c.write_outcome-in-AttestEntry.ensures.clash c.index-own.ensures.value c.write_outcome-in-AttestEntry.ensures.written c.write_outcome-in-AttestEntry.ensures.fits

pub returns-in-Opening-clause-answers : goal.returns-in-Opening-clause-answers
returns-in-Opening-clause-answers g c =
    says_row _ c.index-own.result c.args.out.now _ (AnswersFrame g.H.Hash32.digest g.K.Keep.may_want (frame_shown c.args.frame.now)) (served c.args.self.now) (served c.args.self.now) (Ok c.refuse.result) _
    (refused_row g.H.Hash32.digest g.K.Keep.may_want (frame_shown c.args.frame.now) _ c.refuse.result c.refuse.ensures.none c.refuse.ensures.value)
    c.write_outcome-in-Opening.ensures.clash c.index-own.ensures.value c.write_outcome-in-Opening.ensures.written c.write_outcome-in-Opening.ensures.fits

pub returns-in-Symbol-clause-answers : goal.returns-in-Symbol-clause-answers
returns-in-Symbol-clause-answers g c =
    let a = c.answer_symbol.ensures.answers in
    (a.0, at_frame g.H.Hash32.digest g.K.Keep.may_want _ (Frame.Symbol c.in-Symbol.id.0 c.in-Symbol.axis c.in-Symbol.index) _ _ a.0 _ (ap frame_shown c.in-Symbol.is) a.1, a.2)

pub returns-in-Read-clause-answers : goal.returns-in-Read-clause-answers
returns-in-Read-clause-answers g c =
    let a = c.answer_read.ensures.answers in
    (a.0, at_frame g.H.Hash32.digest g.K.Keep.may_want _ (Frame.Read c.in-Read.id.0) _ _ a.0 _ (ap frame_shown c.in-Read.is) a.1, a.2)
