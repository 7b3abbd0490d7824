use Rattle.wal_shape.proofs.Common.{◌≡◌, ◌-◌, bodies_end}
use Rattle.wal_shape.proofs.proof.after_bodies.Given as goal

-- where the bodies left end is where all of them end
abbrev pub invariant-loop : goal.invariant-loop
invariant-loop l = bodies_end (l.count - l.counter) l.rest ≡ bodies_end l.count l.bytes
