-- The shards that are carried from one committee to the next.
use Rattle.std.specs.Prelude.{ℕ, Bool, not, ◌&&◌, nat_eq, List}
use Rattle.wal_shape.specs.Owners.{among, node_of}

-- owners and faulty shards of two committees: a shard is carried from one to the next if it stays,
-- is correct in both, and has the same node in both
abbrev pub is_carried : List ℕ → List ℕ → List ℕ → List ℕ → List ℕ → ℕ → Bool
is_carried owners_now faulty_now owners_next faulty_next stays shard =
    among stays shard
    && (not (among faulty_now shard)
    && (not (among faulty_next shard)
    && nat_eq (node_of owners_now shard) (node_of owners_next shard)))
