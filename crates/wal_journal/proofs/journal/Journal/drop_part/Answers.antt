use Rattle.wal_journal.proofs.Common.{inl, DropPart}
use Rattle.wal_journal.proofs.Moments.{at_rest}
use Rattle.wal_journal.proofs.HeldLaws.{with_one, ready, keeps_change, ends_of, held_after, fits_with_one}
use Rattle.wal_journal.proofs.journal.Journal.drop_part.Goals as goal

pub returns-then-free-lt39-clause-any_moment : goal.returns-then-free-lt39-clause-any_moment
returns-then-free-lt39-clause-any_moment g c = λ told changes accepts.
    at_rest (g.met.D.Disk.only_now told) (c.args.self.settled told) (inl accepts)

pub finish-requires-clause-taken : goal.finish-requires-clause-taken
finish-requires-clause-taken g c =
    with_one (DropPart c.args.id.now c.args.part) c.args.self.stands c.drop_part_text.ensures.id tt
    c.drop_part_text.ensures.text _ c.drop_part.ensures.dropped

pub returns-clause-any_moment : goal.returns-clause-any_moment
returns-clause-any_moment g c = λ told changes accepts.
    c.finish.ensures.any_moment told changes _
    (ready _ c.args.self.stands c.drop_part_text.ensures.id tt c.drop_part_text.ensures.text changes accepts)

pub returns-clause-keeps : goal.returns-clause-keeps
returns-clause-keeps g c = λ told. keeps_change (g.met.D.Disk.counts_now told) (returns-clause-any_moment g c told)

pub returns-clause-ends : goal.returns-clause-ends
returns-clause-ends g c =
    ends_of _ _ _ _ _ c.args.self (DropPart c.args.id.now c.args.part) c.drop_part.new.self c.finish.result c.args.self.stands
    c.drop_part_text.ensures.id tt c.drop_part_text.ensures.text tt c.drop_part.ensures.dropped c.drop_part.ensures.limit
    c.finish.ensures.written c.finish.ensures.stopped

pub returns-clause-acknowledged : goal.returns-clause-acknowledged
returns-clause-acknowledged g c = λ told changes accepts.
    held_after _ _ _ _ g.D.Disk.clock g.D.Disk.since (g.met.D.Disk.only_now told) _ _ _ changes c.finish.result
    (returns-clause-ends g c) accepts (c.finish.ensures.settled told)

pub finish-requires-clause-fits : goal.finish-requires-clause-fits
finish-requires-clause-fits g c =
    fits_with_one (DropPart c.args.id.now c.args.part) c.args.self.stands c.drop_part_text.ensures.id tt c.drop_part_text.ensures.text
    c.drop_part.ensures.limit tt c.args.self.fits
