use Rattle.wal_run.proofs.Common.{◌≡◌, range_with_len}
use Rattle.wal_run.proofs.serve.own_nodes.Given as goal

abbrev pub invariant-loop-node : goal.invariant-loop-node
invariant-loop-node l = l.nodes.items ≡ range_with_len 0 l.node
