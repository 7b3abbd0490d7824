use Rattle.wal_world.proofs.Common.{◌∙◌, ap, sym, backs, world_of, held, side_of, writing_side}
use Rattle.wal_ledger.specs.declared.entry.Kind.TheVariants.{Denies, Holds}
use Rattle.wal_protocol.proofs.Vouched.{vouched}
use Rattle.wal_world.proofs.network.Network.backs.Goals as goal

pub returns-in-Holds : goal.returns-in-Holds
returns-in-Holds g c =
    let w = world_of c.args.self.now in
    c.is_ok.ensures.value
    ∙ vouched Holds w c.ledger-ledger.result.now.log c.shard-keeper.result.now.contents c.writing_side.result c.args.shard c.args.id.now c.acknowledge.result c.ledger-ledger.ensures.log
    c.writing_side.ensures c.shard-keeper.ensures.contents c.requires.open c.acknowledge.ensures
    ∙ ap (λ k. backs k (held (side_of (writing_side w) w) c.args.shard c.args.id.now)) (sym c.in-Holds.is)

pub returns-in-Denies : goal.returns-in-Denies
returns-in-Denies g c =
    let w = world_of c.args.self.now in
    c.is_ok-in-Denies.ensures.value
    ∙ vouched Denies w c.ledger-ledger.result.now.log c.shard-keeper.result.now.contents c.writing_side.result c.args.shard c.args.id.now c.attest.result c.ledger-ledger.ensures.log
    c.writing_side.ensures c.shard-keeper.ensures.contents c.requires.open c.attest.ensures
    ∙ ap (λ k. backs k (held (side_of (writing_side w) w) c.args.shard c.args.id.now)) (sym c.in-Denies.is)
