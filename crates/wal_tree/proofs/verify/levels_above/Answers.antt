-- A turn of the loop is a level.
use Rattle.wal_tree.proofs.Common.{arith}
use Rattle.wal_tree.proofs.Paths.{height-end, height-le, height-step}
use Rattle.wal_tree.proofs.verify.levels_above.Goals as goal

pub overflow_add-levels : goal.overflow_add-levels
overflow_add-levels c = omega (arith, height-le 10 c.args.count (omega arith), c.loop-width.invariant.high)

pub loop-width-preserved : goal.loop-width-preserved
loop-width-preserved c = search (arith, height-step c.loop-width.width (omega arith), c.loop-width.invariant)

pub returns-clause-exact : goal.returns-clause-exact
returns-clause-exact c = omega (arith, height-end c.loop-width.width (omega arith), c.loop-width.invariant.high)

pub returns-clause-few : goal.returns-clause-few
returns-clause-few c = omega (arith, height-le 10 c.args.count (omega arith), c.loop-width.invariant.high)
