use Rattle.wal_world.proofs.Common.{refl}
use Rattle.wal_world.proofs.Worlds.{first_world}
use Rattle.wal_world.proofs.world.World.create.Goals as goal

pub invariant_of-result : goal.invariant_of-result
invariant_of-result g c = first_world g.H.Hash32.digest g.met.H.Hash32.size c.args.f c.args.epoch c.args.format c.args.owners c.args.faulty c.args.room c.in_ok-network.network c.in_ok-network.ensures

pub returns-clause-facts : goal.returns-clause-facts
returns-clause-facts g c = (first_world g.H.Hash32.digest g.met.H.Hash32.size c.args.f c.args.epoch c.args.format c.args.owners c.args.faulty c.args.room c.in_ok-network.network c.in_ok-network.ensures).facts refl
