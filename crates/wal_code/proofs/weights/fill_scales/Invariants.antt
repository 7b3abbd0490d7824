-- Each place so far has its scale.
use Rattle.wal_code.proofs.Common.{◌≡◌, ℕ, ◌<◌, slice_index, inverse, product_of_others, element_at}
use Rattle.wal_code.proofs.weights.fill_scales.Given as goal

abbrev pub invariant-loop-place : goal.invariant-loop-place
invariant-loop-place l =
    (i : ℕ) → i < l.place →
    element_at l.scales i ≡ inverse (product_of_others l.known (slice_index l.known i) (slice_index l.known i))
