use Rattle.wal_erasure.proofs.Common.{AreMarks}
use Rattle.wal_erasure.proofs.locator.mark.Given as goal

abbrev pub invariant-loop-point : goal.invariant-loop-point
invariant-loop-point l = AreMarks l.known l.point l.marks
