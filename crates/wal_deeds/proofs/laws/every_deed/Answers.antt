use Rattle.wal_deeds.proofs.Deeds.{every_deed}
use Rattle.wal_deeds.proofs.laws.every_deed.Goals as goal

pub returns : goal.returns
returns g c = record { deed = every_deed g.H.Hash32.digest }
