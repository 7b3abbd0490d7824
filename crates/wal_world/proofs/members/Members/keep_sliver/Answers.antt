use Rattle.wal_world.proofs.Common.{sym}
use Rattle.wal_world.proofs.Placing.{shard_at, placed_by}
use Rattle.wal_world.proofs.members.Members.keep_sliver.Goals as goal

pub keep_sliver-requires : goal.keep_sliver-requires
keep_sliver-requires g c =
    let own = shard_at c.requires.shards c.requires.shard c.from.ensures c.index_mut.ensures.value in
    record {
      limit = own.0.limit_is;
      commits = c.requires.commits;
      f = sym own.0.f_is;
      same = rw own.1 at c.requires.same;
      holds = rw own.0.index_is c.requires.holds;
    }

pub returns : goal.returns
returns g c = (
  c.keep_sliver.new.self.contents,
  rw (shard_at c.requires.shards c.requires.shard c.from.ensures c.index_mut.ensures.value).1 c.keep_sliver.ensures.kept,
  placed_by c.requires.shards c.requires.shard c.from.ensures c.index_mut.ensures.value c.keep_sliver.ensures.place,
)
