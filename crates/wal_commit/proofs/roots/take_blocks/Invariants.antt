use Rattle.wal_commit.proofs.Common.{◌≡◌, ◌*◌, ◌-◌, ◌≤◌, ℕ, List, length, shard_count, symbol_size, IsFrontOf, IsExtended, AreSeen}
use Rattle.wal_commit.proofs.roots.take_blocks.Given as goal

abbrev pub invariant-loop-first : goal.invariant-loop-first
invariant-loop-first g l = record {
  front : IsFrontOf l.bytes l.front;
  shape : l.front.shape ≡ l.shape;
  rows : l.trees.rows ≡ shard_count l.shape.f;
  block : length l.block ≡ l.count * l.most * l.size;
  digests : length l.digests ≡ l.count * l.most * 32;
  within : l.first ≤ l.count;
  seen : (e : List ℕ) → IsExtended l.shape.f l.bytes e
      → AreSeen g.H.Hash32.digest (shard_count l.shape.f) (symbol_size l.shape.f l.shape.length) e 0 l.fn.trees l.fn.roots.items
      → AreSeen g.H.Hash32.digest (shard_count l.shape.f) (symbol_size l.shape.f l.shape.length) e l.first l.trees l.roots.items;
}

abbrev pub decreases-loop-first : goal.decreases-loop-first
decreases-loop-first g l = l.count - l.first
