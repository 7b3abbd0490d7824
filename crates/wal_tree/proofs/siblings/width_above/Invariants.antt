-- The width of the level that the loop has come to.
use Rattle.wal_tree.proofs.Common.{◌≡◌, ◌≤◌, width_of}
use Rattle.wal_tree.proofs.siblings.width_above.Given as goal

abbrev pub invariant-loop-level : goal.invariant-loop-level
invariant-loop-level l = record {
  exact : l.width ≡ width_of l._level l.count;
  few : l.width ≤ 1000;
}
