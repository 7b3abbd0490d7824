use Rattle.wal_erasure.proofs.Common.{◌≡◌, ◌∷◌, locator}
use Rattle.wal_erasure.proofs.locator.product_of_others.Given as goal

abbrev pub invariant-loop-place : goal.invariant-loop-place
invariant-loop-place l = l.product.0 ≡ locator (l.point ∷ l.known) l.place l.point
