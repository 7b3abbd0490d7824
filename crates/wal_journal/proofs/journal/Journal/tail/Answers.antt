use Rattle.wal_journal.proofs.HeldLaws.{stands_now}
use Rattle.wal_journal.proofs.journal.Journal.tail.Goals as goal

pub returns-clause-records : goal.returns-clause-records
returns-clause-records g c = λ changes accepts. (stands_now changes c.args.self.now.stands accepts).0
