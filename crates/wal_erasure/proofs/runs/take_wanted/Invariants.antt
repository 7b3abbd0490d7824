use Rattle.wal_erasure.proofs.Common.{AreTaken}
use Rattle.wal_erasure.proofs.runs.take_wanted.Given as goal

abbrev pub invariant-loop-place : goal.invariant-loop-place
invariant-loop-place l = AreTaken l.strip.words l.strip.start l.strip.width l.place l.factors l.runs l.fn.regions l.regions
