use Rattle.wal_journal.proofs.Common.{inl, ◌∙◌, Put}
use Rattle.wal_journal.proofs.Moments.{at_rest, weaker}
use Rattle.wal_journal.proofs.HeldLaws.{with_one, ready, keeps_change, with_room, either_of, ends_of, held_after, fits_with_one}
use Rattle.wal_journal.proofs.journal.Journal.put.Goals as goal

pub returns-then-free-needed-clause-any_moment : goal.returns-then-free-needed-clause-any_moment
returns-then-free-needed-clause-any_moment g c = λ told changes accepts.
    at_rest (g.met.D.Disk.only_now told) (c.args.self.settled told) (inl accepts)

pub returns-in_default-clause-any_moment : goal.returns-in_default-clause-any_moment
returns-in_default-clause-any_moment g c = λ told changes accepts.
    at_rest (g.met.D.Disk.only_now told) (c.args.self.settled told) (inl accepts)

pub finish-requires-clause-taken : goal.finish-requires-clause-taken
finish-requires-clause-taken g c =
    with_one (Put c.args.id.now c.args.part c.args.bytes.now) c.args.self.stands (assumption) (assumption)
    (c.deref.ensures.value ∙ c.in-Ok.ensures.text) _ c.in-Ok-put.ensures.stored

pub returns-in-Ok-put-clause-any_moment : goal.returns-in-Ok-put-clause-any_moment
returns-in-Ok-put-clause-any_moment g c = λ told changes accepts.
    weaker (c.finish.ensures.any_moment told changes _
    (ready (Put c.args.id.now c.args.part c.args.bytes.now) c.args.self.stands (assumption) (assumption)
    (c.deref.ensures.value ∙ c.in-Ok.ensures.text) changes accepts))
    (λ image either. with_room _ _ _ (c.in-Ok-put.ensures.answer, tt) either)

pub returns-in-Ok-put-clause-keeps : goal.returns-in-Ok-put-clause-keeps
returns-in-Ok-put-clause-keeps g c = λ told.
    keeps_change (g.met.D.Disk.counts_now told) (λ changes accepts.
    weaker (returns-in-Ok-put-clause-any_moment g c told changes accepts) (λ image fits. either_of _ _ _ fits))

pub returns-in-Ok-put-clause-ends : goal.returns-in-Ok-put-clause-ends
returns-in-Ok-put-clause-ends g c =
    ends_of _ _ _ _ _ c.args.self (Put c.args.id.now c.args.part c.args.bytes.now) c.put.new.self c.finish.result
    c.args.self.stands (assumption) (assumption) (c.deref.ensures.value ∙ c.in-Ok.ensures.text)
    (c.in-Ok-put.ensures.answer, tt) c.in-Ok-put.ensures.stored c.put.ensures.limit c.finish.ensures.written
    c.finish.ensures.stopped

pub returns-in-Ok-put-clause-acknowledged : goal.returns-in-Ok-put-clause-acknowledged
returns-in-Ok-put-clause-acknowledged g c = λ told changes accepts.
    held_after _ _ _ _ g.D.Disk.clock g.D.Disk.since (g.met.D.Disk.only_now told) _ _ _ changes c.finish.result
    (returns-in-Ok-put-clause-ends g c) accepts (c.finish.ensures.settled told)

pub returns-clause-any_moment : goal.returns-clause-any_moment
returns-clause-any_moment g c = λ told changes accepts.
    at_rest (g.met.D.Disk.only_now told) (c.args.self.settled told) (inl accepts)

pub invariant_of-result-in-Err : goal.invariant_of-result-in-Err
invariant_of-result-in-Err g c = record {
  stands = rw c.in-Err.ensures.refused c.args.self.stands;
  settled = c.args.self.settled;
  within = c.args.self.within;
  fits = rw c.put.ensures.limit c.args.self.fits;
}

pub finish-requires-clause-fits : goal.finish-requires-clause-fits
finish-requires-clause-fits g c =
    fits_with_one (Put c.args.id.now c.args.part c.args.bytes.now) c.args.self.stands (assumption) (assumption)
    (c.deref.ensures.value ∙ c.in-Ok.ensures.text) c.put.ensures.limit (c.in-Ok-put.ensures.answer, tt)
    c.args.self.fits
