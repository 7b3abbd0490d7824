use Rattle.wal_shape.proofs.Common.{[], drop, sym, proof_shown}
use Rattle.wal_shape.proofs.ProofLaws.{IsProof-spelled, length-openings_in}
use Rattle.wal_shape.proofs.proof.ProofRef.count.Goals as goal

pub returns-clause-value : goal.returns-clause-value
unfolding proof_shown
returns-clause-value c = sym (length-openings_in c.args.self.now.head.count (drop 5 c.args.self.now.bytes.now) [] c.args.self.now.whole.2)

pub returns-clause-proof : goal.returns-clause-proof
unfolding proof_shown
returns-clause-proof c = IsProof-spelled c.args.self.now.head c.args.self.now.bytes.now c.args.self.now.whole
