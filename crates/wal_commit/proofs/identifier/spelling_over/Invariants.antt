use Rattle.wal_commit.proofs.Common.{◌≡◌, ◌*◌, ◌++◌, ℕ, List, vec_len, flat_map, range_with_len, shard_count, symbol_size, head_text, pair_over, AreLeafDigests}
use Rattle.wal_commit.proofs.identifier.spelling_over.Given as goal

-- the pairs so far are spelled after the head, and the room of a column's digests stays
abbrev pub invariant-loop-index : goal.invariant-loop-index
invariant-loop-index g l = record {
  spelled : (e : List ℕ) → AreLeafDigests g.H.Hash32.digest (shard_count l.shape.f) (symbol_size l.shape.f l.shape.length) e l.digests
      → l.bytes.items ≡ head_text l.shape.format l.shape.f l.shape.length ++ flat_map (pair_over g.H.Hash32.digest l.shape e) (range_with_len 0 l.index);
  room : vec_len l.column ≡ shard_count l.shape.f * 32;
}
