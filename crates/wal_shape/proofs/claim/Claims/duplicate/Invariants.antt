use Rattle.wal_shape.proofs.Common.{◌≡◌, take}
use Rattle.wal_shape.proofs.claim.Claims.duplicate.Given as goal

abbrev pub invariant-loop-claim : goal.invariant-loop-claim
invariant-loop-claim l = l.items.items ≡ take l.claim-index l.claim-items
