-- Each place so far has the product over the points before it, and so has the next.
use Rattle.wal_code.proofs.Common.{◌≡◌, ℕ, ◌<◌, take, element_at, product_of_all}
use Rattle.wal_code.proofs.weights.fill_products_before.Given as goal

abbrev pub invariant-loop-place : goal.invariant-loop-place
invariant-loop-place l =
    (l.before.0 < 65536) × (l.before.0 ≡ product_of_all (take l.place l.known) l.wanted) ×
    ((i : ℕ) → i < l.place → element_at l.products i ≡ product_of_all (take i l.known) l.wanted)
