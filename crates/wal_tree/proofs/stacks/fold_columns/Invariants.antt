-- The places from `level` on, with the pending entry of that level, have the root of the whole stack.
use Rattle.wal_tree.proofs.Common.{◌≡◌, ◌<◌, ◌⊎◌, [], drop, map, climb, entries, row_stack, column_bytes}
use Rattle.wal_tree.proofs.stacks.fold_columns.Given as goal

abbrev pub invariant-loop-level : goal.invariant-loop-level
invariant-loop-level g l =
    let stack = row_stack l.row (map column_bytes l.levels) in
    record {
      same : climb g.H.Hash32.digest stack [] ≡ climb g.H.Hash32.digest (drop l.level stack) (entries l.pending);
      before : l.level < l.height ⊎ (l.height ≡ 0);
    }
