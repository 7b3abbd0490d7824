use Rattle.wal_kernel.proofs.Common.{◌*◌, IsSumBelow, scaled_byte}
use Rattle.wal_kernel.proofs.blocks.add_scaled_blocks.Given as goal

abbrev pub invariant-loop-block : goal.invariant-loop-block
invariant-loop-block l = IsSumBelow (scaled_byte l.fn.c.0 l.fn.src) l.fn.dst (64 * l.block) l.dst
