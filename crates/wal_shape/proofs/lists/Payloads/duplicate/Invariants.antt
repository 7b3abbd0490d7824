use Rattle.wal_shape.proofs.Common.{◌≡◌, take}
use Rattle.wal_shape.proofs.lists.Payloads.duplicate.Given as goal

abbrev pub invariant-loop-payload : goal.invariant-loop-payload
invariant-loop-payload l = l.items.items ≡ take l.payload-index l.payload-items
