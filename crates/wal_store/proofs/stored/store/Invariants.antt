use Rattle.wal_store.proofs.Common.{◌-◌, ◌≤◌, length, pages_for}
use Rattle.wal_store.proofs.ChainLaws.{Stored}
use Rattle.wal_store.proofs.stored.store.Given as goal

abbrev pub invariant-loop-left : goal.invariant-loop-left
invariant-loop-left l =
    (l.left ≤ pages_for (length l.bytes)) × Stored 4096 l.fn.chains l.chains l.bytes (pages_for (length l.bytes) - l.left) l.left l.first

abbrev pub decreases-loop-left : goal.decreases-loop-left
decreases-loop-left l = l.left
