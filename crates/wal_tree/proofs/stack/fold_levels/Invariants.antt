-- The places from `level` on, with the pending entry of that level, have the root of the whole stack.
use Rattle.wal_tree.proofs.Common.{◌≡◌, ◌<◌, ◌⊎◌, [], take, drop, climb, entries}
use Rattle.wal_tree.proofs.stack.fold_levels.Given as goal

abbrev pub invariant-loop-level : goal.invariant-loop-level
invariant-loop-level g l = record {
  same : climb g.H.Hash32.digest (take l.height l.levels) []
      ≡ climb g.H.Hash32.digest (drop l.level (take l.height l.levels)) (entries l.pending);
  before : l.level < l.height ⊎ (l.height ≡ 0);
}
