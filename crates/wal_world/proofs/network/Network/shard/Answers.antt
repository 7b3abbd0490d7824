use Rattle.wal_world.proofs.Shards.{lent_shards, place_below, shard_is}
use Rattle.wal_world.proofs.network.Network.shard.Goals as goal

pub bounds-shards-from : goal.bounds-shards-from
bounds-shards-from g c =
    let lent = lent_shards c.args.side c.args.self.now c.of.result.now c.as_slice-shards.result.now c.as_slice-shards.ensures.value c.of.ensures in
    place_below c.args.side c.args.self.now c.as_slice-shards.result.now c.args.shard c.from.result c.requires.network c.requires.present lent c.from.ensures c.requires.shard

pub returns : goal.returns
returns g c =
    let lent = lent_shards c.args.side c.args.self.now c.of.result.now c.as_slice-shards.result.now c.as_slice-shards.ensures.value c.of.ensures in
    shard_is c.args.side c.args.self.now c.as_slice-shards.result.now c.args.shard c.from.result c.index-shards-from.result c.requires.network c.requires.present lent c.from.ensures
    c.requires.shard c.index-shards-from.is
