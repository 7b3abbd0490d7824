use Rattle.wal_erasure.proofs.Common.{◌≤◌, ◌-◌, AreSolved}
use Rattle.wal_erasure.proofs.solution.solve_missing.Given as goal

abbrev pub invariant-loop-start : goal.invariant-loop-start
invariant-loop-start l = (l.start ≤ l.words) × AreSolved l.words 0 l.start l.wanted l.known l.sources l.fn.targets l.targets

abbrev pub decreases-loop-start : goal.decreases-loop-start
decreases-loop-start l = l.words - l.start
