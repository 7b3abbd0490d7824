use Rattle.wal_world.proofs.Common.{IfOk-weaker, frame_shown, frame_in, world_of}
use Rattle.wal_world.proofs.Placing.{places_network, places_world}
use Rattle.wal_world.proofs.Puts.{on_ok}
use Rattle.wal_world.proofs.WriteSteps.{text_put}
use Rattle.wal_world.proofs.network.Network.put_text.Goals as goal

pub returns-in-Ok-clause-puts : goal.returns-in-Ok-clause-puts
returns-in-Ok-clause-puts g c =
    let h = c.in-Ok.ensures.puts in
    IfOk-weaker c.clash_told.result _ _ (λ clash told. text_put g.H.Hash32.digest (world_of c.args.self.now) (world_of c.put_at.new.self) c.args.at c.args.shard
    (frame_shown c.frame_of-frame.result) (frame_in c.args.bytes.now) h.0 c.in-Ok.answer clash c.frame_of-frame.ensures.value h.1
    (places_world c.args.at c.args.self.now c.put_at.new.self c.args.shard h.0 h.2) told) c.clash_told.ensures

pub returns-in-Ok-clause-network : goal.returns-in-Ok-clause-network
returns-in-Ok-clause-network g c =
    let h = c.in-Ok.ensures.puts in
    on_ok c.clash_told.result (places_network c.args.at c.args.self.now c.put_at.new.self c.args.shard h.0 h.2 c.requires.network c.requires.present)
