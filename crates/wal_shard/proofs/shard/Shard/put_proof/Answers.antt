use Rattle.wal_shard.proofs.Common.{rules, ap, length, arith, proof_shown, parts_at, Proof, Verifies}
use Rattle.wal_shard.proofs.Sizes.{proof_some, proof_short}
use Rattle.wal_shard.proofs.HeldLaws.{proof_fit, proof_then}
use Rattle.wal_shard.proofs.shard.Shard.put_proof.Goals as goal

pub store-requires-clause-some : goal.store-requires-clause-some
store-requires-clause-some g c = omega (arith, proof_some (proof_shown c.args.p.now), ap length c.bytes.ensures)

pub store-requires-clause-most : goal.store-requires-clause-most
store-requires-clause-most g c =
    let s = c.args.self.now in
    let q = proof_shown c.args.p.now in
    let v : Verifies g.H.Hash32.digest s.f s.index (parts_at s.contents c.args.id.now) (Proof c.args.id.now.0 q) =
    search rules in
    omega (arith, proof_short g.H.Hash32.digest v.0 q v.1.fit v.2 (proof_fit c.args.p.now), ap length c.bytes.ensures)

pub store-requires-clause-sound : goal.store-requires-clause-sound
store-requires-clause-sound g c =
    let s = c.args.self.now in
    rw c.bytes.ensures
    (proof_then g.H.Hash32.digest s.f s.index c.args.id.now.0 _ (proof_shown c.args.p.now) (search rules)
    (proof_fit c.args.p.now) (c.sound.ensures.sound c.args.id.now))
