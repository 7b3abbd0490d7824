use Rattle.wal_world.proofs.Placing.{placed_by, shard_at, lets_go}
use Rattle.wal_world.proofs.members.Members.forget.Goals as goal

pub returns : goal.returns
returns g c =
    let held = (shard_at c.requires.shards c.requires.shard c.from.ensures c.index_mut.ensures.value).1 in
    let e = c.forget.ensures in
    let went = lets_go c.args.ledger.now.log {old = c.index_mut.result.now} {new = c.forget.new.self} c.args.id.now c.forget.result held e.may e.gone e.declined e.stays in
    (c.forget.new.self.contents, went.0, placed_by c.requires.shards c.requires.shard c.from.ensures c.index_mut.ensures.value went.1)
