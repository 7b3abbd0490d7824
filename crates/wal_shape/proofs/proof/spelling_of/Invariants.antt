use Rattle.wal_shape.proofs.Common.{◌≡◌, ◌++◌, ◌∷◌, [], take, w16, flat_map, number_text, axis_number, body_text}
use Rattle.wal_shape.proofs.proof.spelling_of.Given as goal

-- the head, and the bodies of the openings so far
abbrev pub invariant-loop-opening : goal.invariant-loop-opening
invariant-loop-opening l = l.out.items ≡ (axis_number l.fn.head.axis ∷ []) ++ number_text w16 l.fn.head.index ++ number_text w16 l.fn.head.count ++ flat_map body_text (take l.opening-index l.openings)
