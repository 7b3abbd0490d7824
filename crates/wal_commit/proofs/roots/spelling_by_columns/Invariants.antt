use Rattle.wal_commit.proofs.Common.{◌≡◌, ◌++◌, ℕ, List, flat_map, range_with_len, IsExtended, head_text, pair_over}
use Rattle.wal_commit.proofs.roots.spelling_by_columns.Given as goal

abbrev pub invariant-loop-shard : goal.invariant-loop-shard
invariant-loop-shard g l =
    (e : List ℕ) → IsExtended l.shape.f l.bytes e
    → l.spelled.items ≡ head_text l.shape.format l.shape.f l.shape.length ++ flat_map (pair_over g.H.Hash32.digest l.shape e) (range_with_len 0 l.shard)
