use Rattle.wal_challenge.proofs.Common.{IsDigest}
use Rattle.wal_challenge.proofs.Collides.{false_collides}
use Rattle.wal_challenge.proofs.clash.false_claims_collide.Goals as goal

pub returns : goal.returns
returns g c =
    let is : IsDigest g.H.Hash32.digest = record { size = g.met.H.Hash32.size; bytes = g.met.H.Hash32.bytes } in
    λ shape bytes claim fit long false symbol path. false_collides g.H.Hash32.digest is shape bytes claim fit.1 long false symbol path
