use Rattle.wal_erasure.proofs.Common.{AreFactors}
use Rattle.wal_erasure.proofs.locator.fill_factors.Given as goal

abbrev pub invariant-loop-point : goal.invariant-loop-point
invariant-loop-point l = AreFactors l.known l.count l.point l.factors
