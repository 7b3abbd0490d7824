use Rattle.wal_shape.proofs.Common.{[], drop, proof_shown}
use Rattle.wal_shape.proofs.ProofLaws.{length-head, length-openings_in}
use Rattle.wal_shape.proofs.proof.ProofRef.opening.Goals as goal

pub split_at-requires : goal.split_at-requires
split_at-requires c = length-head c.args.self.now.head c.args.self.now.bytes.now c.args.self.now.whole

pub opening_at-requires-clause-place : goal.opening_at-requires-clause-place
unfolding proof_shown
opening_at-requires-clause-place c = rw (length-openings_in c.args.self.now.head.count (drop 5 c.args.self.now.bytes.now) [] c.args.self.now.whole.2) at c.requires

pub returns-clause-opening : goal.returns-clause-opening
unfolding proof_shown
returns-clause-opening c = rw c.split_at.ensures.back at c.opening_at.ensures.opening
