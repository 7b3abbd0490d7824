use Rattle.wal_gf.proofs.Common.{◌≡◌, product}
use Rattle.wal_gf.proofs.Gf.mul.Given as goal

-- the sum for the lower bits
abbrev pub invariant-loop-i : goal.invariant-loop-i
invariant-loop-i l = l.product ≡ product l.i l.left l.right
