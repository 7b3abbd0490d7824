use Rattle.wal_shape.proofs.Common.{length, refl, ◌∙◌, Head, IsProof, proof_with}
use Rattle.wal_shape.proofs.ProofLaws.{SpellProof-with}
use Rattle.wal_shape.proofs.proof.BadProof.of.Goals as goal

pub invariant_of-result : goal.invariant_of-result
invariant_of-result c =
    let openings = c.as_slice-openings.result.now in
    let head : Head = record { axis = c.args.axis; index = c.args.index; count = length openings } in
    let fits : IsProof (proof_with head openings) = rw c.as_slice-openings.ensures c.requires in
    (SpellProof-with head openings c.from_vec.result fits refl (c.from_vec.ensures ∙ c.in_ok-bytes.ensures)).0

pub returns : goal.returns
returns c =
    let openings = c.as_slice-openings.result.now in
    let head : Head = record { axis = c.args.axis; index = c.args.index; count = length openings } in
    let fits : IsProof (proof_with head openings) = rw c.as_slice-openings.ensures c.requires in
    rw (← c.as_slice-openings.ensures)
    (SpellProof-with head openings c.from_vec.result fits refl (c.from_vec.ensures ∙ c.in_ok-bytes.ensures)).1
