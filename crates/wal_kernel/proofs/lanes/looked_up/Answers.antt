use Rattle.wal_kernel.proofs.LaneLemmas.{HasLanes-sum}
use Rattle.wal_kernel.proofs.lanes.looked_up.Goals as goal

pub returns : goal.returns
returns c f3 f2 f1 f0 t3 t2 t1 t0 =
    HasLanes-sum c.sum-3.ensures (c.by_high.ensures f3 t3)
    (HasLanes-sum c.sum-2.ensures (c.by_low.ensures f2 t2)
    (HasLanes-sum c.sum.ensures (c.by_high-2.ensures f1 t1) (c.by_low-2.ensures f0 t0)))
