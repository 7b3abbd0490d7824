use Rattle.wal_serve.proofs.Common.{◌++◌, sym, ◌∙◌}
use Rattle.wal_serve.proofs.TakingLaws.{rose_since, lacks_payload, takes_envelope}
use Rattle.wal_serve.proofs.envelopes.take_envelope.Goals as goal

pub returns-in-None-clause-takes : goal.returns-in-None-clause-takes
returns-in-None-clause-takes g c =
    let head = c.in_ok-size.ensures.takes in
    let t = c.take_payload.ensures.takes in
    (head.0 ++ t.0, takes_envelope _ _ _ _ c.in_ok-size.size _ _ head.0 t.0 c.take_payload.new.buffer head.1 (sym c.lack_of.ensures ∙ c.in-None.is) t.1 t.2)

pub returns-in-Some-clause-takes : goal.returns-in-Some-clause-takes
returns-in-Some-clause-takes g c =
    let head = c.in_ok-size.ensures.takes in
    let t = c.take_payload.ensures.takes in
    (head.0 ++ t.0, lacks_payload _ _ _ _ _ c.in_ok-size.size _ _ head.0 t.0 _ head.1 (rose_since _ _ _ c.take_head.ensures.later) (sym c.lack_of.ensures ∙ c.in-Some.is) t.1)
