use Rattle.wal_journal.proofs.Moments.{holds_settled}
use Rattle.wal_journal.proofs.HeldLaws.{stands_now, room_now}
use Rattle.wal_journal.proofs.journal.Journal.keep.Goals as goal

pub returns-clause-holds : goal.returns-clause-holds
returns-clause-holds g c = λ changes accepts. (stands_now changes c.args.self.now.stands accepts).1

pub returns-clause-acknowledged : goal.returns-clause-acknowledged
returns-clause-acknowledged g c =
    λ told changes accepts. holds_settled g.D.Disk.clock g.D.Disk.since (g.met.D.Disk.only_now told)
    (c.args.self.now.settled told) accepts

pub returns-clause-room : goal.returns-clause-room
returns-clause-room g c = λ changes accepts. room_now _ _ changes c.args.self.now.fits accepts
