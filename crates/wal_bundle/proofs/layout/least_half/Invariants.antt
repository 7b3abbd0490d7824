-- No half below low has room, and high has, or is past the most.
use Rattle.wal_bundle.proofs.Common.{◌-◌}
use Rattle.wal_bundle.proofs.Room.{Narrows}
use Rattle.wal_bundle.proofs.layout.least_half.Given as goal

abbrev pub invariant-loop-low : goal.invariant-loop-low
invariant-loop-low l = Narrows l.f l.lengths l.most l.low l.high

abbrev pub decreases-loop-low : goal.decreases-loop-low
decreases-loop-low l = l.high - l.low
