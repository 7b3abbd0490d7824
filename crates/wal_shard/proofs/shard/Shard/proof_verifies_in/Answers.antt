use Rattle.wal_shard.proofs.Common.{rules, ◌≡◌, Some, metadata_shown, proof_shown, parts_at}
use Rattle.wal_shard.proofs.HeldLaws.{held_proof_verifies, proof_fit, proof_verified}
use Rattle.wal_shard.proofs.shard.Shard.proof_verifies_in.Goals as goal

pub returns-then-holds_bytes-clause-verifies : goal.returns-then-holds_bytes-clause-verifies
returns-then-holds_bytes-clause-verifies g c =
    let there : (parts_at c.args.self.now.contents c.args.id.now).proof ≡ Some c.bytes.result.now = search rules in
    let verifies =
    held_proof_verifies _ _ _ _ _ (metadata_shown c.held_metadata-m.result) (proof_shown c.args.p.now)
    (c.sound.ensures.sound c.args.id.now)
    c.held_metadata-m.ensures (proof_fit c.args.p.now) (cc (there, c.bytes.ensures)) in
    ((λ t. verifies), (λ w. c.if-holds_bytes.true))

pub returns-else-holds_bytes-clause-verifies : goal.returns-else-holds_bytes-clause-verifies
returns-else-holds_bytes-clause-verifies g c =
    proof_verified _ _ c.args.self.now.index _ _ (metadata_shown c.held_metadata-m.result)
    (proof_shown c.args.p.now) c.is_bad_proof.result c.held_metadata-m.ensures
    c.is_bad_proof.ensures.bad
