use Rattle.wal_journal.proofs.NeverBad.{never_bad, gives, never_full}
use Rattle.wal_journal.proofs.Moments.{holds_settled}
use Rattle.wal_journal.proofs.HeldLaws.{fits_read}
use Rattle.wal_journal.proofs.journal.Journal.open.Goals as goal

pub returns-in-Err-clause-never_bad : goal.returns-in-Err-clause-never_bad
returns-in-Err-clause-never_bad g c = λ changes accepts at is.
    let opens = rw is at c.in-Err.ensures.opens in
    never_bad _ at _ opens.0 changes opens.1 opens.2 opens.3 accepts

pub returns-in-Err-clause-fits : goal.returns-in-Err-clause-fits
returns-in-Err-clause-fits g c = λ changes accepts room needed free is.
    let opens = rw is at c.in-Err.ensures.opens in
    never_full (g.K.Keep.limit c.args.keep) g.K.Keep.may_want _ opens.1 _ opens.0 changes needed free opens.2 opens.3
    opens.4 opens.5 accepts room

pub returns-in-Ok-clause-gives : goal.returns-in-Ok-clause-gives
returns-in-Ok-clause-gives g c = λ changes accepts.
    let opens = c.in-Ok.ensures.opens in
    gives _ _ c.in-Ok.tail _ opens.0 changes c.in-Ok.ensures.now opens.1 opens.2 accepts

pub returns-in-Ok-clause-acknowledged : goal.returns-in-Ok-clause-acknowledged
returns-in-Ok-clause-acknowledged g c = λ told changes accepts.
    holds_settled g.D.Disk.clock g.D.Disk.since (g.met.D.Disk.only_now told) (c.in-Ok.ensures.settled told).0
    (rw c.in-Ok.ensures.now accepts)

pub invariant_of-result-clause-fits : goal.invariant_of-result-clause-fits
invariant_of-result-clause-fits g c =
    let opens = c.in-Ok.ensures.opens in
    fits_read _ _ c.in-Ok.tail _ _ _ opens.0 c.in-Ok.ensures.now c.in-Ok.ensures.limit opens.1 opens.2 opens.3
