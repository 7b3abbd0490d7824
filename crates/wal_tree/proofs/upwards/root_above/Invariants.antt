use Rattle.wal_tree.proofs.Common.{◌≡◌, ◌≤◌, ◌+◌, ◌-◌, ◌*◌, ◌/◌, length, pieces, root_of}
use Rattle.wal_tree.proofs.upwards.root_above.Given as goal

abbrev pub invariant-levels : goal.invariant-levels
invariant-levels g l = (1 ≤ l.width) × (l.width ≤ 1000)
    × ((l.width + 1) / 2 * 64 ≤ length l.level) × ((l.width + 1) / 2 * 32 ≤ length l.room)
    × (root_of g.H.Hash32.digest (pieces l.width 32 l.level) ≡ root_of g.H.Hash32.digest (pieces l.fn.count 32 l.fn.level))

abbrev pub decreases-levels : goal.decreases-levels
decreases-levels g l = l.width - 1
