use Rattle.wal_fft.proofs.Common.{IsGathered}
use Rattle.wal_fft.proofs.strips.gather.Given as goal

abbrev pub invariant-loop-place : goal.invariant-loop-place
invariant-loop-place l = IsGathered l.strip.words l.strip.start l.strip.width l.place l.regions l.runs
