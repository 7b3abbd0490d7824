use Rattle.wal_erasure.proofs.Common.{AreCopied}
use Rattle.wal_erasure.proofs.runs.copy_known.Given as goal

abbrev pub invariant-loop-place : goal.invariant-loop-place
invariant-loop-place l = AreCopied l.words l.wanted l.known l.place l.sources l.fn.targets l.targets
