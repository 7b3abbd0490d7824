use Rattle.wal_tree.proofs.Common.{◌≡◌, ◌*◌, ◌<◌, ◌++◌, ℕ, length, take, drop, entry_of}
use Rattle.wal_tree.proofs.stacks.interleave.Given as goal

abbrev pub invariant-loop-row : goal.invariant-loop-row
invariant-loop-row l = record {
  long : length l.pairs ≡ l.rows * 64;
  pairs : (r : ℕ) → r < l.row → take 64 (drop (r * 64) l.pairs) ≡ entry_of r l.left ++ entry_of r l.right;
}
