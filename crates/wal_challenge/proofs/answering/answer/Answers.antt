use Rattle.wal_challenge.proofs.Common.{metadata_shown}
use Rattle.wal_challenge.proofs.AnswerLaws.{answer_holds, one_answer}
use Rattle.wal_challenge.proofs.answering.answer.Goals as goal

pub returns-clause-answers : goal.returns-clause-answers
returns-clause-answers g c =
    rw c.from_vec.ensures (c.in_ok-openings.ensures c.args.primary.now c.args.secondary.now c.in_ok-answerer.ensures.words)

pub returns-clause-only : goal.returns-clause-only
returns-clause-only g c = λ other are.
    one_answer g.H.Hash32.digest (metadata_shown c.args.m) c.args.beacon.now c.args.shard c.args.count c.args.primary.now c.args.secondary.now other c.from_vec.result c.create.ensures.fit.shape.1
    are (returns-clause-answers g c)

pub returns-clause-held : goal.returns-clause-held
returns-clause-held g c =
    answer_holds g.H.Hash32.digest g.met.H.Hash32.size (metadata_shown c.args.m) c.args.beacon.now c.args.shard c.args.count c.args.primary.now c.args.secondary.now c.from_vec.result c.create.ensures.fit.shape.1
    c.requires.slivers (returns-clause-answers g c)
