use Rattle.wal_world.proofs.Common.{rules, ap, ◌∙◌, Contents, keeps, world_of}
use Rattle.wal_world.proofs.Placing.{correct_is, keeps_same, places_network, places_world}
use Rattle.wal_world.proofs.network.Network.forget.Goals as goal

pub returns-in-Ok-clause-step : goal.returns-in-Ok-clause-step
returns-in-Ok-clause-step g c =
    let h = c.in-Ok.ensures in (
      correct_is c.args.at (world_of c.args.self.now) c.args.shard (search rules) (search rules),
      h.1.0,
      places_world c.args.at c.args.self.now c.forget_at.new.self c.args.shard h.0 h.2 ∙ ap (λ (m : Contents). keeps (world_of c.args.self.now) c.args.at c.args.shard m) h.1.1,
    )

pub returns-in-Err-clause-network : goal.returns-in-Err-clause-network
returns-in-Err-clause-network g c = let h = c.in-Err.ensures in places_network c.args.at c.args.self.now c.forget_at.new.self c.args.shard h.0 h.2 c.requires.network (search rules)

pub returns-in-Err-clause-step : goal.returns-in-Err-clause-step
returns-in-Err-clause-step g c =
    let h = c.in-Err.ensures in (
      correct_is c.args.at (world_of c.args.self.now) c.args.shard (search rules) (search rules),
      h.1.0,
      places_world c.args.at c.args.self.now c.forget_at.new.self c.args.shard h.0 h.2 ∙ ap (λ (m : Contents). keeps (world_of c.args.self.now) c.args.at c.args.shard m) h.1.1
          ∙ keeps_same c.args.at (world_of c.args.self.now) c.args.shard,
    )
