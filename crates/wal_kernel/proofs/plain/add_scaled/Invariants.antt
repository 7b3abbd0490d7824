use Rattle.wal_kernel.proofs.Common.{◌*◌, IsSumBelow, scaled_byte}
use Rattle.wal_kernel.proofs.plain.add_scaled.Given as goal

abbrev pub invariant-loop-i : goal.invariant-loop-i
invariant-loop-i l = IsSumBelow (scaled_byte l.fn.c.0 l.fn.src) l.fn.dst (2 * l.i) l.dst
