-- The loop ends only where no place is in use.
use Rattle.wal_tree.proofs.Common.{arith}
use Rattle.wal_tree.proofs.Roots.{climb-none}
use Rattle.wal_tree.proofs.stack.fold_levels.Goals as goal

pub returns : goal.returns
returns g c = climb-none g.H.Hash32.digest c.args.height c.args.levels.now (grind arith)
