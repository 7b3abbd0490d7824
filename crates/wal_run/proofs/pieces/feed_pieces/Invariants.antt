-- What was taken is what the reader stands for, unless it is malformed, and the count of faults never fell.
use Rattle.wal_run.proofs.Common.{◌≡◌, ℕ, ◌-◌, ◌<◌, ◌≤◌, List, [], length, Consumes, StandsFor, Stands}
use Rattle.wal_run.proofs.pieces.feed_pieces.Given as goal

abbrev pub invariant-pieces : goal.invariant-pieces
invariant-pieces g l = record {
  some : 0 < length l.buffer;
  within : l.taken ≤ 134217728;
  stream : (got : List ℕ) × Consumes (g.S.Source.left l.initial.source) (g.S.Source.left l.source) got × (length got ≡ l.taken)
      × ((id : List ℕ) → StandsFor g.H.Hash32.digest id l.initial.reader [] → Stands g.H.Hash32.digest id l.reader l.wrong got);
  later : g.S.Source.faults l.initial.source ≤ g.S.Source.faults l.source;
}

abbrev pub decreases-pieces : goal.decreases-pieces
decreases-pieces g l = 134217728 - l.taken
