use Rattle.wal_world.proofs.Common.{IfOk-weaker, rules, frame_shown, world_of}
use Rattle.wal_world.proofs.Placing.{correct_is, places_network, places_world}
use Rattle.wal_world.proofs.Puts.{on_ok, send_step}
use Rattle.wal_world.proofs.network.Network.send.Goals as goal

pub returns-in-Ok-clause-step : goal.returns-in-Ok-clause-step
returns-in-Ok-clause-step g c =
    let h = c.in-Ok.ensures.puts in
    let w = world_of c.args.self.now in
    IfOk-weaker c.sent.result _ _ (λ said told. send_step g.H.Hash32.digest w.log.f w (world_of c.put_at.new.self) c.args.at c.args.shard c.args.bytes.now (frame_shown c.in-Some.frame) h.0
    c.in-Ok.answer said (correct_is c.args.at w c.args.shard (search rules) (search rules)) c.in-Some.ensures.some h.1
    (places_world c.args.at c.args.self.now c.put_at.new.self c.args.shard h.0 h.2) told) c.sent.ensures

pub returns-in-Ok-clause-network : goal.returns-in-Ok-clause-network
returns-in-Ok-clause-network g c =
    let h = c.in-Ok.ensures.puts in
    on_ok c.sent.result (places_network c.args.at c.args.self.now c.put_at.new.self c.args.shard h.0 h.2 c.requires.network (search rules))
