-- A turn of the loop leads to the parent.
use Rattle.wal_tree.proofs.Common.{ap, sym, ◌∙◌, arith, chunks_exact_rest, folded}
use Rattle.wal_tree.proofs.Roots.{pieces-short}
use Rattle.wal_tree.proofs.Paths.{fold-step}
use Rattle.wal_tree.proofs.verify.top_of.Goals as goal

pub loop-sibling-preserved : goal.loop-sibling-preserved
loop-sibling-preserved g c =
    let l = c.loop-sibling in
    let step = c.in-Some.ensures.steps.1 in
    let same = l.invariant.same
    ∙ fold-step g.H.Hash32.digest 32 l.place c.in-Some.sibling.now (chunks_exact_rest c.next.new.self) (chunks_exact_rest l.sibling-iterator) l.entry c.parent_of-entry.result
    (omega arith) (step.1 ∙ l.invariant.size) step.0 c.parent_of-entry.ensures in
    search (arith, same, c.in-Some.ensures.steps.0 ∙ l.invariant.size)

pub returns : goal.returns
returns g c =
    let l = c.loop-sibling in
    let short = c.in-None.ensures.steps.1 in
    sym (l.invariant.same
    ∙ ap (folded g.H.Hash32.digest l.place l.entry) (pieces-short 32 (chunks_exact_rest l.sibling-iterator) (omega (arith, short.0, l.invariant.size))))
