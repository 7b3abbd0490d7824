use Rattle.wal_reader.proofs.Answered.{absent, collided}
use Rattle.wal_reader.proofs.closing.answer_kept.Goals as goal

pub returns-in-Waiting : goal.returns-in-Waiting
returns-in-Waiting g c = λ id payloads was.
    absent g.H.Hash32.digest id payloads _ (rw c.in-Waiting.is at was).0 c.without_evidence.ensures

pub answer_one-requires : goal.answer_one-requires
answer_one-requires g c = (c.requires.0, c.requires.1, rw c.in-One.is at c.requires.2)

pub returns-in-One : goal.returns-in-One
returns-in-One g c = λ id payloads was. c.answer_one.ensures id payloads (rw c.in-One.is at was)

pub returns : goal.returns
returns g c = λ id payloads was.
    let here = rw c.in-Two.is at was in
    collided g.H.Hash32.digest id payloads here.0 here.1 c.in-Two.clash c.without_evidence-in-Two.result here.2 here.3
    here.4 c.without_evidence-in-Two.ensures
