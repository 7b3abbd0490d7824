use Rattle.wal_serve.proofs.Common.{sym, ap}
use Rattle.wal_serve.proofs.TakingLaws.{first_lack, first_wrong, first_lacks}
use Rattle.wal_serve.proofs.envelopes.take_first.Goals as goal

pub returns-else-first-eq-ENVELOPE-clause-takes : goal.returns-else-first-eq-ENVELOPE-clause-takes
returns-else-first-eq-ENVELOPE-clause-takes g c =
    let t = c.fill.ensures.takes in
    (t.0, first_wrong _ _ _ _ _ t.0 c.fill.new.into c.fill.auto.into c.in-Whole.is t.2 c.if-first-eq-ENVELOPE.false t.1)

pub returns-in-Ended-clause-takes : goal.returns-in-Ended-clause-takes
returns-in-Ended-clause-takes g c =
    let t = c.fill.ensures.takes in
    (t.0, first_lacks _ _ _ _ _ _ t.0 _ c.fill.auto.into (λ all. cc (c.in-Ended.is, all)) (sym (ap first_lack c.in-Ended.is)) t.1)

pub returns-in-TooLong-clause-takes : goal.returns-in-TooLong-clause-takes
returns-in-TooLong-clause-takes g c =
    let t = c.fill.ensures.takes in
    (t.0, first_lacks _ _ _ _ _ _ t.0 _ c.fill.auto.into (λ all. cc (c.in-TooLong.is, all)) (sym (ap first_lack c.in-TooLong.is)) t.1)

pub returns-in-Failed-clause-takes : goal.returns-in-Failed-clause-takes
returns-in-Failed-clause-takes g c =
    let t = c.fill.ensures.takes in
    (t.0, first_lacks _ _ _ _ _ _ t.0 _ c.fill.auto.into (λ all. cc (c.in-Failed.is, all)) (sym (ap first_lack c.in-Failed.is)) t.1)
