use Rattle.wal_bundle.proofs.Common.{IsDigest}
use Rattle.wal_bundle.proofs.Truths.{bundle_collides, members_collide}
use Rattle.wal_bundle.proofs.collisions.contrary_members_collide.Goals as goal

pub returns : goal.returns
returns g c =
    let is : IsDigest g.H.Hash32.digest = record { size = g.met.H.Hash32.size; bytes = g.met.H.Hash32.bytes } in
    record { bundle = bundle_collides g.H.Hash32.digest is; members = members_collide g.H.Hash32.digest is }
