use Rattle.wal_world.proofs.Common.{held}
use Rattle.wal_world.proofs.network.Network.holds_all.Goals as goal

pub returns : goal.returns
unfolding held
returns g c = rw (c.ledger.ensures.log, c.shard.ensures.contents) at c.ready.ensures
