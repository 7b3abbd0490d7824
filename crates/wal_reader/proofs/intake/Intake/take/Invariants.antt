-- What was taken so far stands before what is left of the piece.
use Rattle.wal_reader.proofs.Common.{◌≡◌, ◌+◌, ◌≤◌, ◌++◌, List, ℕ, length, IsSettledState, IsSound, Takes, shown}
use Rattle.wal_reader.proofs.intake.Intake.take.Given as goal

abbrev pub invariant-envelopes : goal.invariant-envelopes
invariant-envelopes g l = record {
  sound : IsSound (shown l.self);
  limit : l.self.taken + length l.left ≤ 134217728;
  so_far : (bytes : List ℕ) × (l.initial.piece ≡ bytes ++ l.left) × Takes g.H.Hash32.digest (shown l.initial.self) (shown l.self) bytes;
  settled : IsSettledState l.initial.self.heard → IsSettledState l.self.heard;
}

abbrev pub decreases-envelopes : goal.decreases-envelopes
decreases-envelopes g l = length l.left
