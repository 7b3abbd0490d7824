use Rattle.wal_fft.proofs.Common.{IsScattered}
use Rattle.wal_fft.proofs.strips.scatter.Given as goal

abbrev pub invariant-loop-place : goal.invariant-loop-place
invariant-loop-place l = IsScattered l.strip.words l.strip.start l.strip.width l.known l.place l.runs l.fn.regions l.regions
