use Rattle.wal_shape.proofs.Common.{subst, ap, Some, sym, ◌∙◌, SpellProof, EncodingProof}
use Rattle.wal_shape.proofs.ProofLaws.{IsProof-spelled, proof_of-spelled}
use Rattle.wal_shape.proofs.proof.BadProof.create.Goals as goal

pub returns-in-Some-clause-proof : goal.returns-in-Some-clause-proof
returns-in-Some-clause-proof c = IsProof-spelled c.in-Some.head c.args.bytes (subst (SpellProof c.in-Some.head) c.as_slice.ensures c.in-Some.ensures.whole)

pub returns-in-Some-clause-only : goal.returns-in-Some-clause-only
returns-in-Some-clause-only c = λ p h same. ap (λ (x : EncodingProof). Some x) (proof_of-spelled c.in-Some.head c.args.bytes p (subst (SpellProof c.in-Some.head) c.as_slice.ensures c.in-Some.ensures.whole) h same)

pub returns-in-None-clause-only : goal.returns-in-None-clause-only
returns-in-None-clause-only c = λ p h same. absurd (c.in-None.ensures.none p h (same ∙ sym c.as_slice.ensures))
