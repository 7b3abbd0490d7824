use Rattle.wal_store.proofs.Common.{◌-◌, arith}
use Rattle.wal_store.proofs.ChainLaws.{giving_more}
use Rattle.wal_store.proofs.stored.discard.Goals as goal

pub loop-left-preserved : goal.loop-left-preserved
loop-left-preserved c = (
  giving_more _ _ _ _ (c.loop-left.left - 1) _ _ _ (omega arith) c.loop-left.invariant.0
      c.remove-page.ensures.frees c.remove-page.ensures.next,
  omega (arith, c.loop-left.invariant.1, c.remove-page.ensures.free),
)
