use Rattle.wal_kernel.proofs.Common.{◌*◌, slice_index, IsSumBelow}
use Rattle.wal_kernel.proofs.blocks.add_vectors.Given as goal

abbrev pub invariant-loop-vector : goal.invariant-loop-vector
invariant-loop-vector l = IsSumBelow (λ k. slice_index l.fn.src k) l.fn.dst (32 * l.vector) l.dst
