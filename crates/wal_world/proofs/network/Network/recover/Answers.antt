use Rattle.wal_world.proofs.Common.{rules, ◌≡◌, true, is_live, world_of}
use Rattle.wal_world.proofs.Placing.{correct_is}
use Rattle.wal_world.proofs.ReplyTexts.{like_world}
use Rattle.wal_world.proofs.Recoveries.{taken_step}
use Rattle.wal_world.proofs.network.Network.recover.Goals as goal

pub returns-clause-step : goal.returns-clause-step
returns-clause-step g c =
    let w = world_of c.args.self.now in
    let live : is_live w.log c.args.id.now ≡ true = search rules in
    taken_step g.H.Hash32.digest w (world_of c.recover_from.new.self) c.args.side c.args.shard c.args.axis c.args.id.now c.args.replies.now c.in_ok-payloads.payloads
    (correct_is c.args.side w c.args.shard (search rules) (search rules)) live c.in_ok-payloads.ensures.payloads (world_of c.gather_symbols.new.self) c.recover_from.result
    (like_world c.in_ok-payloads.ensures.like) c.recover_from.ensures.word
