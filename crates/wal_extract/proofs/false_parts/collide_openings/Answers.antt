-- The opening at the place that was found holds, and has not the symbol of the matrix.
use Rattle.wal_extract.proofs.Common.{IfOk-weaker, opening_shown}
use Rattle.wal_extract.proofs.false_parts.collide_openings.Goals as goal

pub collide_opening-requires-clause-long : goal.collide_opening-requires-clause-long
collide_opening-requires-clause-long g c = c.requires.apart.long

pub collide_opening-requires-clause-holds : goal.collide_opening-requires-clause-holds
collide_opening-requires-clause-holds g c =
    rw (c.axis.ensures, c.index.ensures.value)
    (c.requires.meet.each c.first_false_opening.result (opening_shown c.opening-opening.result)
    c.opening-opening.ensures.opening)

pub collide_opening-requires-clause-apart : goal.collide_opening-requires-clause-apart
collide_opening-requires-clause-apart g c =
    rw (c.axis.ensures, c.index.ensures.value)
    (c.first_false_opening.ensures.apart (opening_shown c.opening-opening.result) c.opening-opening.ensures.opening)

pub returns-clause-texts : goal.returns-clause-texts
returns-clause-texts g c =
    IfOk-weaker c.collide_opening.result _ _
    (λ t meet. (_, _, c.opening-opening.ensures.opening, rw (c.axis.ensures, c.index.ensures.value) at meet))
    c.collide_opening.ensures.texts
