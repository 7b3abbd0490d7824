-- The pieces so far are the same.
use Rattle.wal_tree.proofs.Common.{◌≡◌, ◌*◌, take}
use Rattle.wal_tree.proofs.collide.first_apart.Given as goal

abbrev pub invariant-loop-place : goal.invariant-loop-place
invariant-loop-place l = take (l.place * l.size) l.a ≡ take (l.place * l.size) l.b
