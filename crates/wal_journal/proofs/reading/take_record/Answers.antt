use Rattle.wal_journal.proofs.Common.{rules}
use Rattle.wal_journal.proofs.HeldLaws.{drop_part_step, drop_id_step}
use Rattle.wal_journal.proofs.reading.take_record.Goals as goal

pub returns-in-DropPart-clause-steps : goal.returns-in-DropPart-clause-steps
returns-in-DropPart-clause-steps g c =
    drop_part_step _ _ c.args.head c.in-DropPart.id _ _ c.requires.gate c.requires.head (search rules) c.requires.within
    _ c.in-DropPart.part (rw c.in-DropPart.is at c.requires.is) c.drop_part.ensures.dropped

pub returns-in-DropId-clause-steps : goal.returns-in-DropId-clause-steps
returns-in-DropId-clause-steps g c =
    drop_id_step _ _ c.args.head c.in-DropId.id _ _ c.requires.gate c.requires.head (search rules) c.requires.within
    _ (rw c.in-DropId.is at c.requires.is) c.drop_id.ensures.dropped
