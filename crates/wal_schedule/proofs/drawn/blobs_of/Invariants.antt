use Rattle.wal_schedule.proofs.Common.{◌≡◌, AreBlobs, state_before}
use Rattle.wal_schedule.proofs.drawn.blobs_of.Given as goal

abbrev pub invariant-loop-b : goal.invariant-loop-b
invariant-loop-b g l = record {
  blobs : AreBlobs g.H.Hash32.digest l.initial.draws.state l.b l.blobs.items;
  state : l.draws.state ≡ state_before l.initial.draws.state l.b;
}
