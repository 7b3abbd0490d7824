use Rattle.wal_world.proofs.Common.{sym}
use Rattle.wal_world.proofs.Placing.{shard_at, placed_by}
use Rattle.wal_world.proofs.members.Members.keep_proof.Goals as goal

pub keep_proof-requires : goal.keep_proof-requires
keep_proof-requires g c =
    let own = shard_at c.requires.shards c.requires.shard c.from.ensures c.index_mut.ensures.value in
    record {
      limit = own.0.limit_is;
      commits = c.requires.commits;
      f = sym own.0.f_is;
      same = rw own.1 at c.requires.same;
      fit = c.requires.fit;
      bad = c.requires.bad;
    }

pub returns : goal.returns
returns g c = (
  c.keep_proof.new.self.contents,
  rw (shard_at c.requires.shards c.requires.shard c.from.ensures c.index_mut.ensures.value).1 c.keep_proof.ensures.kept,
  placed_by c.requires.shards c.requires.shard c.from.ensures c.index_mut.ensures.value c.keep_proof.ensures.place,
)
