use Rattle.wal_world.proofs.Common.{frame_shown}
use Rattle.wal_world.proofs.Placing.{placed_by}
use Rattle.wal_world.proofs.Puts.{put_by}
use Rattle.wal_world.proofs.members.Members.put.Goals as goal

pub returns-clause-puts : goal.returns-clause-puts
returns-clause-puts g c = (
  c.put.new.self.contents,
  put_by g.H.Hash32.digest c.args.ledger.now.log (frame_shown c.args.frame.now) c.put.result c.put.new.self.contents c.requires.shards c.requires.shard c.from.ensures c.index_mut.ensures.value (c.put.ensures.puts c.requires.part),
  placed_by c.requires.shards c.requires.shard c.from.ensures c.index_mut.ensures.value c.put.ensures.place,
)
