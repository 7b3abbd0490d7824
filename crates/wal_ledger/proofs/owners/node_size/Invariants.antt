use Rattle.wal_ledger.proofs.Common.{◌≡◌, ◌≤◌, count_below, same_node}
use Rattle.wal_ledger.proofs.owners.node_size.Given as goal

abbrev pub invariant-loop-other : goal.invariant-loop-other
invariant-loop-other l = record {
  low : l.size ≤ l.other;
  is : l.size ≡ count_below l.other (same_node l.owners l.shard);
}
