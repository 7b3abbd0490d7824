use Rattle.wal_ledger.proofs.Common.{◌≡◌, ◌<◌, ◌^◌, List, ℕ, Chain, HasChain, has_neighbour}
use Rattle.wal_ledger.proofs.tally.is_linked.Given as goal

abbrev pub invariant-loop-next : goal.invariant-loop-next
invariant-loop-next l = record {
  fits : l.next < 2 ^ 32;
  chained : HasChain l.entries l.links l.kind l.next;
  same : (shards : List ℕ) → Chain l.entries l.links l.kind l.link shards → (rest : List ℕ) × (Chain l.entries l.links l.kind l.next rest × (has_neighbour l.owners shards l.shard ≡ has_neighbour l.owners rest l.shard));
}

abbrev pub decreases-loop-next : goal.decreases-loop-next
decreases-loop-next l = l.next
