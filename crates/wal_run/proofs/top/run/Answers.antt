use Rattle.wal_run.proofs.CauseRows.{answered_unless_memory, causes_of, nothing_asked}
use Rattle.wal_run.proofs.Headlines.{headline_of}
use Rattle.wal_run.proofs.Only.{exact, one_answer}
use Rattle.wal_run.proofs.top.run.Goals as goal

pub returns-clause-headline : goal.returns-clause-headline
returns-clause-headline g c = headline_of g.H.Hash32.digest g.met.H.Hash32.size _ _ _ c.answer.ensures.ends

pub returns-clause-causes : goal.returns-clause-causes
returns-clause-causes g c = causes_of _ _ _ _ c.answer.ensures.ends

pub returns-clause-exact : goal.returns-clause-exact
returns-clause-exact g c = exact _ _ _ _ c.answer.ensures.ends

pub returns-clause-nothing_asked : goal.returns-clause-nothing_asked
returns-clause-nothing_asked g c = nothing_asked _ _ _ _ c.answer.ensures.ends

pub returns-clause-complete : goal.returns-clause-complete
returns-clause-complete g c = answered_unless_memory _ _ _ _ c.answer.ensures.ends

pub returns-clause-only : goal.returns-clause-only
returns-clause-only g c = one_answer _ _
