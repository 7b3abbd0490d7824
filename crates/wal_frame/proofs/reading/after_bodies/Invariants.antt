use Rattle.wal_frame.proofs.Common.{◌≡◌, ◌+◌, ◌-◌, ◌*◌, ◌≤◌, bodies_at}
use Rattle.wal_frame.proofs.reading.after_bodies.Given as goal

-- the bodies left, which begin at this place, end where all of them end
abbrev pub invariant-loop : goal.invariant-loop
invariant-loop l = record {
  most : l.place ≤ 38 + 16777543 * l.counter;
  same : bodies_at (l.count - l.counter) l.place l.rest ≡ bodies_at l.count 38 l.bytes;
}
