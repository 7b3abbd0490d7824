use Rattle.wal_world.proofs.Common.{◌≡◌, ◌<◌, ℕ, true, owners_of, same_node, Next, world_of, HoldsAll}
use Rattle.wal_world.proofs.network.Network.may_be_ready.Given as goal

abbrev pub invariant-loop-other : goal.invariant-loop-other
invariant-loop-other g l = (s : ℕ) → s < l.other → same_node (owners_of Next (world_of l.self).log) l.shard s ≡ true → HoldsAll (world_of l.self) s
