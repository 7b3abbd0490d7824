use Rattle.std.proofs.Common.{◌≡◌, ◌/◌, ◌<◌, length, arith}
use Rattle.wal_record.proofs.Words.{member_set}
use Rattle.wal_record.proofs.set.ShardSet.add.Goals as goal

pub returns : goal.returns
returns c = λ s.
    let at : c.from.result ≡ c.args.shard / 64 = c.from.ensures in
    let lt : c.args.shard / 64 < length c.args.self.now.words = omega arith in
    rw at (member_set c.args.self.now.words c.args.shard s lt)
