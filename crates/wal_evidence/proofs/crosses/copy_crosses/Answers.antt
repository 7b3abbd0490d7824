use Rattle.wal_evidence.proofs.Common.{ℕ, List, ◌<◌, All, subst, sym, arith, opening_shown, proof_shown}
use Rattle.wal_evidence.proofs.Openings.{cross_written, crosses_below, crosses_written}
use Rattle.wal_evidence.proofs.crosses.copy_crosses.Goals as goal

pub loop-place-preserved : goal.loop-place-preserved
loop-place-preserved c =
    let openings = (proof_shown c.args.p.now).openings in
    let count = c.count-place-end.ensures.value in
    cross_written openings c.loop-place.crosses c.loop-place.place (opening_shown c.opening.result)
    (omega (arith, c.loop-place-test.true, count, c.requires, c.loop-place.auto.crosses)) c.opening.ensures.opening c.loop-place.invariant

pub returns-clause-below : goal.returns-clause-below
returns-clause-below c =
    let openings = (proof_shown c.args.p.now).openings in
    let count = c.count-place-end.ensures.value in
    let copied = crosses_written openings c.loop-place.crosses c.loop-place.place (omega (arith, c.loop-place-test.false, count))
    (omega (arith, c.requires, c.loop-place.auto.crosses)) c.loop-place.invariant in
    subst (λ (xs : List ℕ). All (λ i. i < 1000) xs) (sym copied) (crosses_below openings c.count-place-end.ensures.proof.bodies)
