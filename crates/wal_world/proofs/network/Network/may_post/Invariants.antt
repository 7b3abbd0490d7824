use Rattle.wal_world.proofs.Common.{◌≡◌, ◌<◌, ℕ, true, owners_of, same_node, Next, backs, world_of, held, side_of, writing_side}
use Rattle.wal_world.proofs.network.Network.may_post.Given as goal

abbrev pub invariant-loop-other : goal.invariant-loop-other
invariant-loop-other g l =
    (s : ℕ) → s < l.other → same_node (owners_of Next (world_of l.self).log) l.shard s ≡ true
    → backs l.kind (held (side_of (writing_side (world_of l.self)) (world_of l.self)) s l.id) ≡ true
