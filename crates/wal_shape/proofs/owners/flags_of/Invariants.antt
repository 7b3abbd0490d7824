use Rattle.wal_shape.proofs.Common.{◌≡◌, ℕ, ◌<◌, false, get_or, take, among}
use Rattle.wal_shape.proofs.owners.flags_of.Given as goal

abbrev pub invariant-loop-number : goal.invariant-loop-number
invariant-loop-number l = (k : ℕ) → k < 1000 → get_or l.flags k false ≡ among (take l.number-index l.numbers) k
