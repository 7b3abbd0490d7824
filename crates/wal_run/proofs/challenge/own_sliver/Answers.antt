use Rattle.wal_run.proofs.challenge.own_sliver.Goals as goal

pub returns-in-Some-clause-own : goal.returns-in-Some-clause-own
returns-in-Some-clause-own g c = rw c.held-index.ensures.value at c.in-Some.ensures.first

pub returns-in-None-clause-none : goal.returns-in-None-clause-none
returns-in-None-clause-none g c = rw c.held-index.ensures.value at c.in-None.ensures.none
