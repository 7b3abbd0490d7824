use Rattle.std.proofs.Common.{◌≡◌, ℕ, ◌||◌}
use Rattle.wal_ledger.specs.Ledger.{same_node}
use Rattle.wal_record.specs.Bits.{member}
use Rattle.wal_record.specs.Record.{within}
use Rattle.wal_record.proofs.set.ShardSet.add_node.Given as goal

abbrev pub invariant-loop-other : goal.invariant-loop-other
invariant-loop-other l = (s : ℕ) → member l.self.words s ≡ (member l.fn.self.words s || within l.other (same_node l.owners l.shard) s)
