use Rattle.wal_commit.proofs.Common.{◌≡◌, ◌+◌, ◌*◌, ◌≤◌, ℕ, List, length, AreSeen, HasColumns}
use Rattle.wal_commit.proofs.roots.add_block.Given as goal

abbrev pub invariant-loop-place : goal.invariant-loop-place
invariant-loop-place g l = record {
  rows : l.trees.rows ≡ l.count;
  seen : (first : ℕ) (e : List ℕ) → length e ≡ l.count * l.count * l.size → first + l.width ≤ l.count
      → HasColumns l.count l.size e first l.width l.block
      → AreSeen g.H.Hash32.digest l.count l.size e first l.fn.trees l.fn.roots.items
      → AreSeen g.H.Hash32.digest l.count l.size e (first + l.place) l.trees l.roots.items;
}
