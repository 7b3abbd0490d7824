use Rattle.wal_world.proofs.Common.{ap, read_reply_of, Members}
use Rattle.wal_world.proofs.ReplyTexts.{written_by}
use Rattle.wal_world.proofs.network.Network.write_reply.Goals as goal

pub returns-clause-written : goal.returns-clause-written
returns-clause-written g c =
    written_by c.args.side c.args.self.now c.of-members.result.now.shards.items c.args.shard c.from-place.result c.index.result.now c.args.id.now (λ i p. read_reply_of c.args.id.now.0 i p)
    c.args.self.now.buffer c.read_reply.new.out c.read_reply.result c.requires.network c.requires.present (ap (λ (m : Members g.row.H.Denot). m.shards.items) c.of-members.ensures) c.from-place.ensures
    c.requires.shard c.index.ensures c.requires.network.empty c.read_reply.ensures.reply
