use Rattle.wal_world.proofs.Common.{◌≡◌, cond, map, range_with_len, shard_with, world_of, contents_of, is_carried_over, no_entries}
use Rattle.wal_world.proofs.network.Network.next_shards.Given as goal

abbrev pub invariant-loop-shard : goal.invariant-loop-shard
invariant-loop-shard g l =
    let w = world_of l.self in
    l.shards.items ≡ map (shard_with w.log.f (λ s. cond (is_carried_over w l.committee.owners l.committee.faulty l.committee.stays s) (contents_of w.now s) no_entries)) (range_with_len 0 l.shard)
