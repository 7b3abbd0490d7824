use Rattle.wal_shape.proofs.Common.{not, ◌||◌, length, sym, ◌∙◌, arith, among, has_neighbour}
use Rattle.wal_shape.proofs.OwnersLaws.{every_below-fails}
use Rattle.wal_shape.proofs.owners.is_closed.Goals as goal

pub returns-then-not-has_if_needed : goal.returns-then-not-has_if_needed
returns-then-not-has_if_needed c =
    let owners = c.args.owners.now in
    let shards = c.args.shards.now in
    sym (every_below-fails (length owners) c.loop-shard.shard
    (λ shard. not (has_neighbour owners shards shard) || among shards shard)
    (omega arith) (sym c.has_if_needed.ensures ∙ c.if-not-has_if_needed.true))
