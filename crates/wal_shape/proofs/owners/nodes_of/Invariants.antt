use Rattle.wal_shape.proofs.Common.{◌≡◌, ℕ, ◌<◌, false, nat_eq, get_or, take, list_any, node_of}
use Rattle.wal_shape.proofs.owners.nodes_of.Given as goal

abbrev pub invariant-loop-shard : goal.invariant-loop-shard
invariant-loop-shard l = (k : ℕ) → k < 1000 → get_or l.flags k false ≡ list_any (λ shard. nat_eq (node_of l.owners shard) k) (take l.shard-index l.shards)
