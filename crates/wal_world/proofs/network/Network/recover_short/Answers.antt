use Rattle.wal_world.proofs.Common.{◌∙◌, ap, BlobShape, sliver_symbols, held, world_of}
use Rattle.wal_world.proofs.ReplyTexts.{like_world}
use Rattle.wal_world.proofs.Recoveries.{word_proof, word_short}
use Rattle.wal_world.proofs.network.Network.recover_short.Goals as goal

pub keep_proof-requires-clause-same : goal.keep_proof-requires-clause-same
unfolding held
keep_proof-requires-clause-same g c = rw (like_world c.in-Some.ensures.like) c.requires.only.same

pub returns-in-Ok-clause-word : goal.returns-in-Ok-clause-word
returns-in-Ok-clause-word g c =
    word_proof _ (world_of c.args.self.now) _ c.args.side c.args.shard c.args.axis _ _ _ c.requires.f c.requires.only
    c.args.have _ c.requires.comes c.in-Some.ensures.first (rw (like_world c.in-Some.ensures.like) at c.in-Ok.ensures.keeps)

pub returns-in-None-clause-word : goal.returns-in-None-clause-word
returns-in-None-clause-word g c =
    word_short _ (world_of c.args.self.now) _ c.args.side c.args.shard c.args.axis _ _ _ c.requires.f c.requires.only
    c.args.have _ c.requires.comes c.in-None.ensures.none
    (c.from-need.ensures ∙ c.symbol_count.ensures.value ∙ ap (λ (s : BlobShape). sliver_symbols c.args.axis s.f) c.shape.ensures.value)
    (like_world c.in-None.ensures.like)
