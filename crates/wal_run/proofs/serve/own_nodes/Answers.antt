use Rattle.wal_run.proofs.Common.{refl, zero-add}
use Rattle.wal_run.proofs.ShardTexts.{range-split}
use Rattle.wal_run.proofs.serve.own_nodes.Goals as goal

pub loop-node-preserved : goal.loop-node-preserved
loop-node-preserved c =
    rw (c.in_ok-push.ensures.items, c.loop-node.invariant, range-split 0 c.loop-node.node 1 _ refl, zero-add c.loop-node.node) refl
