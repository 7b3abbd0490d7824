-- The crosses so far are copied.
use Rattle.wal_recover.proofs.Common.{◌≡◌, take, crosses_of}
use Rattle.wal_recover.proofs.taking.copy_crosses.Given as goal

abbrev pub invariant-loop-opening : goal.invariant-loop-opening
invariant-loop-opening l = l.crosses.items ≡ crosses_of (take l.opening-index l.openings)
