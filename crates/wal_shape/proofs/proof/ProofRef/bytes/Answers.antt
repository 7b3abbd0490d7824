use Rattle.wal_shape.proofs.Common.{sym, proof_shown}
use Rattle.wal_shape.proofs.proof.ProofRef.bytes.Goals as goal

pub returns : goal.returns
unfolding proof_shown
returns c = sym c.args.self.now.whole.3
