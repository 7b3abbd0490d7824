use Rattle.wal_world.proofs.Common.{◌≡◌, ◌∙◌, ap, sym, true, is_moving, writing, world_of}
use Rattle.wal_world.proofs.Turning.{network_finished, world_finished}
use Rattle.wal_world.proofs.network.Network.finish.Goals as goal

pub returns-in-Ok-clause-step : goal.returns-in-Ok-clause-step
returns-in-Ok-clause-step g c =
    let moving : is_moving (world_of c.args.self.now).log ≡ true = ap is_moving (sym c.ledger.ensures.log) ∙ sym c.moving.ensures.value ∙ c.if-not-moving.false in
    let done = c.in-Ok.ensures.finished in (
      moving,
      done.quorum,
      c.writing_epoch-epoch.ensures.value ∙ ap writing c.ledger-2.ensures.log,
      world_finished c.args.self.now c.follow.new.self c.finish_in.new.books c.follow.ensures.rest done c.follow.ensures.now c.follow.ensures.next,
    )

pub returns-in-Ok-clause-network : goal.returns-in-Ok-clause-network
returns-in-Ok-clause-network g c =
    let moving : is_moving (world_of c.args.self.now).log ≡ true = ap is_moving (sym c.ledger.ensures.log) ∙ sym c.moving.ensures.value ∙ c.if-not-moving.false in
    network_finished c.args.self.now c.follow.new.self c.finish_in.new.books c.follow.ensures.rest c.in-Ok.ensures.finished c.follow.ensures.now c.follow.ensures.next c.requires.network moving
