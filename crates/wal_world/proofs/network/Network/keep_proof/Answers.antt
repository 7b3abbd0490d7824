use Rattle.wal_world.proofs.Common.{refl, metadata_shown, kept_proof, with_members}
use Rattle.wal_shape.specs.ProofRef.{proof_shown}
use Rattle.wal_world.proofs.Placing.{members_are, members_reach}
use Rattle.wal_world.proofs.Recoveries.{kept_at}
use Rattle.wal_world.proofs.network.Network.keep_proof.Goals as goal

pub keep_proof-requires-clause-shards : goal.keep_proof-requires-clause-shards
keep_proof-requires-clause-shards g c = members_are c.args.side c.of_mut.ensures.value c.requires.f c.requires.network c.requires.present

pub keep_proof-requires-clause-shard : goal.keep_proof-requires-clause-shard
keep_proof-requires-clause-shard g c = members_reach c.args.side c.of_mut.ensures.value c.requires.network c.requires.present c.requires.shard

pub returns : goal.returns
returns g c =
    let kept = kept_at c.args.side c.args.self.now (record c.args.self.now { sides = with_members c.args.side c.args.self.now.sides c.keep_proof.new.self }) c.of_mut.result.now c.keep_proof.new.self c.args.shard
    (metadata_shown c.args.m).f c.keep_proof.result (λ x. kept_proof x c.args.id.now (metadata_shown c.args.m) (proof_shown c.args.p.now)) c.of_mut.ensures.value c.requires.f c.requires.network c.requires.present refl c.keep_proof.ensures in
    record { network = kept.0; books = refl; keeps = kept.1 }
