use Rattle.wal_tree.proofs.Common.{ap, sym, ◌∙◌, arith, root_of}
use Rattle.wal_tree.proofs.LevelPairs.{root_one, root_up}
use Rattle.wal_tree.proofs.upwards.root_above.Goals as goal

pub levels-preserved : goal.levels-preserved
levels-preserved g c =
    let digest = g.H.Hash32.digest in
    let i = c.levels.invariant in
    let same = ap (root_of digest) c.go_up-width.ensures.above ∙ root_up digest c.levels.width c.levels.level c.levels-test.true ∙ i.4 in
    search (arith, same, c.go_up-width.ensures, c.levels-test.true, i)

pub returns : goal.returns
returns g c =
    let i = c.levels.invariant in
    c.first_of.ensures ∙ sym (root_one g.H.Hash32.digest c.levels.width c.levels.level (omega (arith, i.0, c.levels-test.false))) ∙ i.4
