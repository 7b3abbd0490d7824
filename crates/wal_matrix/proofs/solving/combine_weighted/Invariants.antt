use Rattle.wal_matrix.proofs.Common.{slice_index, coefficient, IsWeightedSum}
use Rattle.wal_matrix.proofs.solving.combine_weighted.Given as goal

abbrev pub invariant-loop-k : goal.invariant-loop-k
invariant-loop-k l = IsWeightedSum (λ k. coefficient l.known (slice_index l.known k) l.wanted) l.size l.sources l.k l.target
