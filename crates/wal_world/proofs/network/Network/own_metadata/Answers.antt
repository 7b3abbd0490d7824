use Rattle.wal_world.proofs.Common.{held}
use Rattle.wal_world.proofs.network.Network.own_metadata.Goals as goal

pub returns-clause-held : goal.returns-clause-held
unfolding held
returns-clause-held g c = rw (c.shard.ensures.f, c.shard.ensures.contents) at c.metadata.ensures.held

pub returns-clause-none : goal.returns-clause-none
unfolding held
returns-clause-none g c = rw c.shard.ensures.contents at c.metadata.ensures.none
