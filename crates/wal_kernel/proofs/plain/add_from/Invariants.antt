use Rattle.wal_kernel.proofs.Common.{List, ℕ, slice_index, IsSumBelow}
use Rattle.wal_kernel.proofs.plain.add_from.Given as goal

abbrev pub invariant-loop-k : goal.invariant-loop-k
invariant-loop-k l = (old : List ℕ) → IsSumBelow (λ k. slice_index l.fn.src k) old l.fn.start l.fn.dst → IsSumBelow (λ k. slice_index l.fn.src k) old l.k l.dst
