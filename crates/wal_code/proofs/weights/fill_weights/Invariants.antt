-- Places from here on have their weights, and those before them the products over the points before.
use Rattle.wal_code.proofs.Common.{◌≡◌, ℕ, ◌<◌, ◌≤◌, take, drop, length, slice_index, coefficient, element_at, product_of_all}
use Rattle.wal_code.proofs.weights.fill_weights.Given as goal

abbrev pub invariant-loop-place : goal.invariant-loop-place
invariant-loop-place l =
    (l.after.0 ≡ product_of_all (drop l.place l.known) l.wanted) ×
    ((i : ℕ) → i < l.place → element_at l.weights i ≡ product_of_all (take i l.known) l.wanted) ×
    ((i : ℕ) → l.place ≤ i → i < length l.known →
    element_at l.weights i ≡ coefficient l.known (slice_index l.known i) l.wanted)
