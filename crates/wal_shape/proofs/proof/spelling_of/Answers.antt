use Rattle.wal_shape.proofs.Common.{◌++◌, ◌∷◌, [], List, ap, ◌∙◌, w16, flat_map, take_all, Opening, number_text, axis_number, body_text}
use Rattle.wal_shape.proofs.ProofLaws.{written_proof}
use Rattle.wal_shape.proofs.proof.spelling_of.Goals as goal

pub returns : goal.returns
returns c =
    let head = c.args.head in
    c.loop-opening.invariant
    ∙ ap (λ (os : List Opening). (axis_number head.axis ∷ []) ++ number_text w16 head.index ++ number_text w16 head.count ++ flat_map body_text os) (take_all c.loop-opening.opening-index c.args.openings.now c.loop-opening-test.false)
    ∙ written_proof head c.args.openings.now c.requires.count
