use Rattle.wal_network.proofs.Honest.{can_certify}
use Rattle.wal_network.proofs.laws.every_blob.Goals as goal

pub returns : goal.returns
returns g c = record { certified = λ f. can_certify g.H.Hash32.digest (record { size = g.met.H.Hash32.size; bytes = g.met.H.Hash32.bytes }) f }
