use Rattle.wal_journal.proofs.Moments.{run_of}
use Rattle.wal_journal.proofs.laws.acknowledged_stays.Goals as goal

pub returns : goal.returns
returns g c = λ told first disks each changes holds.
    (run_of g.D.Disk.clock g.D.Disk.since (g.met.D.Disk.earlier told) first disks each changes holds).each
