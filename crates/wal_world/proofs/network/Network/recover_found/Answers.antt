use Rattle.wal_world.proofs.Common.{held, world_of}
use Rattle.wal_world.proofs.Recoveries.{word_sliver, word_inconsistent}
use Rattle.wal_world.proofs.network.Network.recover_found.Goals as goal

pub keep_sliver-requires-clause-same : goal.keep_sliver-requires-clause-same
unfolding held
keep_sliver-requires-clause-same g c = c.requires.only.same

pub returns-in-Ok-clause-word : goal.returns-in-Ok-clause-word
returns-in-Ok-clause-word g c =
    word_sliver _ (world_of c.args.self.now) _ c.args.side c.args.shard c.args.axis _ _ _ c.requires.f c.requires.only
    c.in-Sliver.bytes (rw c.in-Sliver.is at c.requires.comes) (rw c.as_slice.ensures at c.in-Ok.ensures.keeps)

pub keep_proof-requires-clause-same : goal.keep_proof-requires-clause-same
unfolding held
keep_proof-requires-clause-same g c = c.requires.only.same

pub returns-in-Ok-keep_proof-clause-word : goal.returns-in-Ok-keep_proof-clause-word
returns-in-Ok-keep_proof-clause-word g c =
    word_inconsistent _ (world_of c.args.self.now) _ c.args.side c.args.shard c.args.axis _ _ _ c.requires.f c.requires.only
    c.in-Inconsistent.p (rw c.in-Inconsistent.is at c.requires.comes) (rw c.view.ensures.value at c.in-Ok-keep_proof.ensures.keeps)
