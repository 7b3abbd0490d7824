use Rattle.wal_commit.proofs.OneDigest.{IsDigest}
use Rattle.wal_evidence.proofs.SameOrNot.{one_to_one}
use Rattle.wal_theorem.proofs.OneAnswer.{judged_as}
use Rattle.wal_gateway.proofs.Sound.{found_checked}
use Rattle.wal_gateway.proofs.laws.contrary_evidence_collides.Goals as goal

pub returns : goal.returns
returns g c =
    let digest = g.H.Hash32.digest in
    let is : IsDigest digest = record { size = g.met.H.Hash32.size; bytes = g.met.H.Hash32.bytes } in
    λ cache id e sound contrary bytes basis none.
    let blob = contrary.blob in
    contrary.other
    (judged_as digest (one_to_one digest is none) blob.shape.format blob.shape.f blob.bytes id.0 e
    (found_checked digest id cache.pairs blob sound.checked contrary.kept).identifier contrary.evidence bytes basis)
