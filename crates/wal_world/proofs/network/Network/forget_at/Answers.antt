use Rattle.wal_world.proofs.Common.{refl, LetsGo}
use Rattle.wal_world.proofs.Placing.{members_are, members_reach, placed_at}
use Rattle.wal_world.proofs.network.Network.forget_at.Goals as goal

pub forget-requires : goal.forget-requires
forget-requires g c = record {
  shards = members_are c.args.at c.of_mut.ensures.value (rw c.ledger_in-ledger.ensures) c.requires.network c.requires.present;
  shard = members_reach c.args.at c.of_mut.ensures.value c.requires.network c.requires.present c.requires.shard;
}

pub returns : goal.returns
returns g c =
    placed_at c.args.at c.args.self.now _ c.forget.new.self c.args.shard (λ log m x. LetsGo log m c.args.id.now c.forget.result x)
    c.of_mut.ensures.value c.ledger_in-ledger.ensures refl refl c.forget.ensures
