-- The product so far times the product over the points that are left is the whole product.
use Rattle.wal_code.proofs.Common.{◌≡◌, ◌<◌, drop, times, product_of_others}
use Rattle.wal_code.proofs.weights.product_of_others.Given as goal

abbrev pub invariant-loop-q : goal.invariant-loop-q
invariant-loop-q l =
    (l.product.0 < 65536) ×
    (times l.product.0 (product_of_others (drop l.q-index l.known) l.point l.wanted) ≡ product_of_others l.known l.point l.wanted)
