use Rattle.wal_erasure.proofs.Common.{◌≡◌, drop, is_known}
use Rattle.wal_erasure.proofs.locator.is_among.Given as goal

abbrev pub invariant-loop-q : goal.invariant-loop-q
invariant-loop-q l = is_known (drop l.q-index l.known) l.point ≡ is_known l.known l.point
