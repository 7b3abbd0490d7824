use Rattle.wal_journal.proofs.HeldLaws.{room_both}
use Rattle.wal_journal.proofs.laws.room_in_parts.Goals as goal

pub returns : goal.returns
returns c = room_both
