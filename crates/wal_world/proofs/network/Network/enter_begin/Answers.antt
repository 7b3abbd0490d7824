use Rattle.wal_world.proofs.Common.{refl}
use Rattle.wal_world.proofs.Turning.{begun_network, begun_world}
use Rattle.wal_world.proofs.network.Network.enter_begin.Goals as goal

pub returns-clause-step : goal.returns-clause-step
returns-clause-step g c = (
  c.requires.serving,
  c.requires.may.epoch,
  refl,
  begun_world c.args.self.now (record c.args.self.now { books = c.begin_in.new.books; few = c.few_with-few.result; sides = record c.args.self.now.sides { next = record { shards = c.args.shards } } }) c.args.committee.owners c.args.committee.faulty
      c.args.committee.stays c.in-Ok.ensures.begun refl refl c.requires.shards refl c.few_with-few.ensures,
)

pub returns-clause-network : goal.returns-clause-network
returns-clause-network g c =
    begun_network c.args.self.now (record c.args.self.now { books = c.begin_in.new.books; few = c.few_with-few.result; sides = record c.args.self.now.sides { next = record { shards = c.args.shards } } }) c.args.committee.owners c.args.committee.faulty
    c.args.committee.stays c.requires.network c.in-Ok.ensures.begun refl c.requires.shards refl refl refl
