-- One level higher there are half as many entries.
use Rattle.wal_tree.proofs.Common.{◌+◌, arith, refl}
use Rattle.wal_tree.proofs.Paths.{width_of-next}
use Rattle.wal_tree.proofs.siblings.width_above.Goals as goal

pub loop-level-preserved : goal.loop-level-preserved
loop-level-preserved c =
    let l = c.loop-level in
    record {
      exact = omega (arith, width_of-next l._level (l._level + 1) c.args.count refl);
      few = omega arith;
    }
