use Rattle.wal_world.proofs.Common.{ap, SymbolReplies, Members}
use Rattle.wal_world.proofs.Symbols.{symbols_by}
use Rattle.wal_world.proofs.network.Network.write_symbols.Goals as goal

pub returns-clause-written : goal.returns-clause-written
returns-clause-written g c =
    symbols_by c.args.side c.args.self.now c.of-members.result.now.shards.items c.args.shard c.from-place.result c.index.result.now c.args.id.now
    (λ i p l. SymbolReplies g.H.Hash32.digest c.args.id.now.0 i p c.args.axis c.args.index l)
    c.args.self.now.buffer c.symbol_reply.new.out c.symbol_reply.result c.requires.network c.requires.present (ap (λ (m : Members g.row.H.Denot). m.shards.items) c.of-members.ensures) c.from-place.ensures
    c.requires.shard c.index.ensures c.requires.network.empty c.symbol_reply.ensures.reply
