use Rattle.wal_fft.proofs.Common.{◌≤◌, ◌-◌, IsExtendedStrip}
use Rattle.wal_fft.proofs.extension.extend_regions.Given as goal

abbrev pub invariant-loop-start : goal.invariant-loop-start
invariant-loop-start l = (l.start ≤ l.words) × IsExtendedStrip l.words 0 l.start l.known l.total l.fn.buffer l.buffer

abbrev pub decreases-loop-start : goal.decreases-loop-start
decreases-loop-start l = l.words - l.start
