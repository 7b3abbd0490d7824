use Rattle.std.proofs.Common.{◌≡◌, ◌≤◌}
use Rattle.wal_ledger.specs.Shards.{count_below}
use Rattle.wal_record.specs.Bits.{member}
use Rattle.wal_record.proofs.set.ShardSet.count.Given as goal

abbrev pub invariant-loop-shard : goal.invariant-loop-shard
invariant-loop-shard l = record {
  low : l.count ≤ l.shard;
  is : l.count ≡ count_below l.shard (member l.self.words);
}
