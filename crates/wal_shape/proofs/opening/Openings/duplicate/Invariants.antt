use Rattle.wal_shape.proofs.Common.{◌≡◌, take}
use Rattle.wal_shape.proofs.opening.Openings.duplicate.Given as goal

abbrev pub invariant-loop-opening : goal.invariant-loop-opening
invariant-loop-opening l = l.items.items ≡ take l.opening-index l.opening-items
