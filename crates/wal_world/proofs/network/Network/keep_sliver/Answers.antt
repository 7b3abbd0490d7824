use Rattle.wal_world.proofs.Common.{refl, metadata_shown, kept_sliver, with_members}
use Rattle.wal_world.proofs.Placing.{members_are, members_reach}
use Rattle.wal_world.proofs.Recoveries.{kept_at}
use Rattle.wal_world.proofs.network.Network.keep_sliver.Goals as goal

pub keep_sliver-requires-clause-shards : goal.keep_sliver-requires-clause-shards
keep_sliver-requires-clause-shards g c = members_are c.args.side c.of_mut.ensures.value c.requires.f c.requires.network c.requires.present

pub keep_sliver-requires-clause-shard : goal.keep_sliver-requires-clause-shard
keep_sliver-requires-clause-shard g c = members_reach c.args.side c.of_mut.ensures.value c.requires.network c.requires.present c.requires.shard

pub returns : goal.returns
returns g c =
    let kept = kept_at c.args.side c.args.self.now (record c.args.self.now { sides = with_members c.args.side c.args.self.now.sides c.keep_sliver.new.self }) c.of_mut.result.now c.keep_sliver.new.self c.args.shard
    (metadata_shown c.args.m).f c.keep_sliver.result (λ x. kept_sliver x c.args.id.now (metadata_shown c.args.m) c.args.axis c.args.bytes.now) c.of_mut.ensures.value c.requires.f c.requires.network c.requires.present refl c.keep_sliver.ensures in
    record { network = kept.0; books = refl; keeps = kept.1 }
