use Rattle.wal_world.proofs.Common.{◌≡◌, arith, committee_size, world_of}
use Rattle.wal_world.proofs.network.Network.holders.Goals as goal

pub returns : goal.returns
returns g c =
    let last : c.loop-shard.shard ≡ committee_size (world_of c.args.self.now).log.f = omega (arith, c.loop-shard-test.false, c.loop-shard.auto.shard-end, c.size-shard-end.ensures.value) in
    rw (last, c.home-home.ensures.value, c.ledger.ensures.log) at c.loop-shard.invariant.is
