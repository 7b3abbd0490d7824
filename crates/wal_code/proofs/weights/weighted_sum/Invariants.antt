-- The sum over the places so far.
use Rattle.wal_code.proofs.Common.{◌≡◌, slice_index, times, xor_below, element_at}
use Rattle.wal_code.proofs.weights.weighted_sum.Given as goal

abbrev pub invariant-loop-place : goal.invariant-loop-place
invariant-loop-place l = l.sum ≡ xor_below l.place (λ i. times (element_at l.weights i) (slice_index l.values i))
