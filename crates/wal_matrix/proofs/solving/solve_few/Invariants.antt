use Rattle.wal_matrix.proofs.Common.{ℕ, ◌<◌, slice_index, length, coefficient, region, IsWeightedSum}
use Rattle.wal_matrix.proofs.solving.solve_few.Given as goal

abbrev pub invariant-loop-place : goal.invariant-loop-place
invariant-loop-place l = (i : ℕ) → i < l.place
    → IsWeightedSum (λ k. coefficient l.known (slice_index l.known k) i) l.size l.sources (length l.known) (region l.size l.targets i)
