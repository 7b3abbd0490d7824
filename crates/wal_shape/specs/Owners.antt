-- Owners: the node that runs each shard of a committee; and lists of shards.
use Rattle.std.specs.Prelude.{ℕ, zero, suc, ◌+◌, Bool, true, not, ◌&&◌, ◌||◌, nat_eq, nat_lt}
use Rattle.std.specs.Prelude.{nat_le, List, [], ◌∷◌, length, slice_index}
use Rattle.std.specs.List.{list_any, list_all}

-- whether the numbers ascend strictly, from `low` on, and are below n
abbrev pub ascends_from : ℕ → ℕ → List ℕ → Bool
ascends_from low n [] = true
ascends_from low n (x ∷ xs) = nat_le low x && (nat_lt x n && ascends_from (x + 1) n xs)

-- whether the numbers ascend strictly and are below n
abbrev pub is_ascending : ℕ → List ℕ → Bool
is_ascending n numbers = ascends_from 0 n numbers

-- whether the test holds for each number below n
abbrev pub every_below : ℕ → (ℕ → Bool) → Bool
every_below zero holds = true
every_below (suc n) holds = every_below n holds && holds n

-- whether a list has a shard
abbrev pub among : List ℕ → ℕ → Bool
among shards shard = list_any (λ other. nat_eq other shard) shards

-- owners give the node of each of n shards, by the shard's number; nodes have numbers below n
abbrev pub are_owners : ℕ → List ℕ → Bool
are_owners n owners = nat_eq (length owners) n && list_all (λ node. nat_lt node n) owners

-- the node that runs a shard
abbrev pub node_of : List ℕ → ℕ → ℕ
node_of owners shard = slice_index owners shard

-- whether a list has a shard of the node that runs this one
abbrev pub has_neighbour : List ℕ → List ℕ → ℕ → Bool
has_neighbour owners shards shard =
    list_any (λ other. nat_eq (node_of owners other) (node_of owners shard)) shards

-- a list of shards is closed: with a shard it has every shard of the same node
abbrev pub is_closed : List ℕ → List ℕ → Bool
is_closed owners shards =
    every_below (length owners)
    (λ shard. not (has_neighbour owners shards shard) || among shards shard)

-- the node of each of n shards, and faulty shards, among which are all shards of their nodes
abbrev pub is_committee : ℕ → List ℕ → List ℕ → Bool
is_committee n owners faulty =
    are_owners n owners && (is_ascending n faulty && is_closed owners faulty)
