use Rattle.wal_shape.proofs.Common.{refl, proof_shown}
use Rattle.wal_shape.proofs.ProofLaws.{IsProof-spelled}
use Rattle.wal_shape.proofs.proof.ProofRef.index.Goals as goal

pub returns-clause-value : goal.returns-clause-value
unfolding proof_shown
returns-clause-value c = refl

pub returns-clause-proof : goal.returns-clause-proof
unfolding proof_shown
returns-clause-proof c = IsProof-spelled c.args.self.now.head c.args.self.now.bytes.now c.args.self.now.whole
