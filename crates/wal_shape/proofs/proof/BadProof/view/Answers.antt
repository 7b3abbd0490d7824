use Rattle.wal_shape.proofs.Common.{subst, IsProof}
use Rattle.wal_shape.proofs.ProofLaws.{IsProof-spelled}
use Rattle.wal_shape.proofs.proof.BadProof.view.Goals as goal

pub returns-clause-proof : goal.returns-clause-proof
returns-clause-proof c = subst IsProof c.self.view_is (IsProof-spelled c.self.inside.head c.self.inside.bytes c.self.invariant)
