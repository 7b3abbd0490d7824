use Rattle.wal_erasure.proofs.Common.{ArePut}
use Rattle.wal_erasure.proofs.runs.put_known.Given as goal

abbrev pub invariant-loop-place : goal.invariant-loop-place
invariant-loop-place l = ArePut l.strip.words l.strip.start l.strip.width l.known l.place l.factors l.regions l.runs
