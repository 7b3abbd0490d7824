use Rattle.wal_shape.proofs.Common.{proof_shown}
use Rattle.wal_shape.proofs.ProofLaws.{IsProof-spelled, proof_of-spelled}
use Rattle.wal_shape.proofs.proof.ProofRef.new.Goals as goal

pub returns-in-Some-clause-proof : goal.returns-in-Some-clause-proof
unfolding proof_shown
returns-in-Some-clause-proof c = IsProof-spelled c.in-Some.head c.args.bytes.now c.in-Some.ensures.whole

pub returns-in-Some-clause-spelled : goal.returns-in-Some-clause-spelled
unfolding proof_shown
returns-in-Some-clause-spelled c = c.in-Some.ensures.whole.3

pub returns-in-Some-clause-only : goal.returns-in-Some-clause-only
unfolding proof_shown
returns-in-Some-clause-only c = λ p h same. proof_of-spelled c.in-Some.head c.args.bytes.now p c.in-Some.ensures.whole h same
