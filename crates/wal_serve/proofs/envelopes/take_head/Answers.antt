use Rattle.wal_serve.proofs.Common.{◌++◌, sym, ◌∙◌}
use Rattle.wal_serve.proofs.TakingLaws.{rose_since, lacks_head, takes_head}
use Rattle.wal_serve.proofs.envelopes.take_head.Goals as goal

pub returns-in-None-clause-takes : goal.returns-in-None-clause-takes
returns-in-None-clause-takes g c =
    let first = c.in_ok-take_first.ensures.takes in
    let t = c.fill.ensures.takes in
    (first.0 ++ t.0, takes_head _ _ _ _ _ _ _ first.0 t.0 c.fill.new.into c.size_of.result first.1 (sym c.lack_of.ensures ∙ c.in-None.is) c.fill.auto.into t.1 t.2 c.size_of.ensures)

pub returns-in-Some-clause-takes : goal.returns-in-Some-clause-takes
returns-in-Some-clause-takes g c =
    let first = c.in_ok-take_first.ensures.takes in
    let t = c.fill.ensures.takes in
    (first.0 ++ t.0, lacks_head _ _ _ _ _ _ _ _ first.0 t.0 _ first.1 (rose_since _ _ _ c.take_first.ensures.later) (sym c.lack_of.ensures ∙ c.in-Some.is) c.fill.auto.into t.1)
