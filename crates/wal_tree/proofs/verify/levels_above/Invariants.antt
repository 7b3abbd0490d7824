-- The levels so far and those above what is left.
use Rattle.wal_tree.proofs.Common.{◌≡◌, ◌+◌, ◌≤◌, height}
use Rattle.wal_tree.proofs.verify.levels_above.Given as goal

abbrev pub invariant-loop-width : goal.invariant-loop-width
invariant-loop-width l = record {
  high : l.levels + height l.width ≡ height l.count;
  few : l.width ≤ 1000;
}

abbrev pub decreases-loop-width : goal.decreases-loop-width
decreases-loop-width l = l.width
