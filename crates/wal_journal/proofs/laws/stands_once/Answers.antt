use Rattle.wal_journal.proofs.Records.{stands_once}
use Rattle.wal_journal.proofs.laws.stands_once.Goals as goal

pub returns : goal.returns
returns c = stands_once
