-- Below `level` the places are free; the entry is still to be pushed onto the rest.
use Rattle.wal_tree.proofs.Common.{◌≡◌, ◌++◌, length, take, drop, pushed}
use Rattle.wal_tree.proofs.stack.carry.Given as goal

abbrev pub invariant-loop-level : goal.invariant-loop-level
invariant-loop-level g l = record {
  same : pushed g.H.Hash32.digest (take l.height l.fn.levels) l.fn.entry
      ≡ take l.level (take l.height l.levels) ++ pushed g.H.Hash32.digest (drop l.level (take l.height l.levels)) l.entry;
  long : length l.levels ≡ 10;
}
