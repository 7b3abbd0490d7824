use Rattle.wal_world.proofs.Common.{rules, ◌≢◌, IfOk, subst, World, RecoversInWorld, world_of}
use Rattle.wal_world.proofs.ReplyTexts.{like_world}
use Rattle.wal_world.proofs.Recoveries.{word_unfit}
use Rattle.wal_world.proofs.network.Network.recover_by.Goals as goal

pub returns-then-f-clause-word : goal.returns-then-f-clause-word
returns-then-f-clause-word g c =
    let w = world_of c.args.self.now in
    let unfit : c.args.m.now.f ≢ w.log.f = search rules in
    word_unfit g.H.Hash32.digest w c.args.side c.args.shard c.args.axis c.args.id.now c.args.payloads.now c.args.m.now c.requires.only unfit

pub returns-clause-word : goal.returns-clause-word
returns-clause-word g c =
    subst
    (λ (w : World). IfOk c.recover_found.result
    (λ word. RecoversInWorld g.H.Hash32.digest w c.args.side c.args.shard c.args.axis c.args.id.now c.args.payloads.now word (world_of c.recover_found.new.self)))
    (like_world c.in_ok-found.ensures.like) c.recover_found.ensures.word
