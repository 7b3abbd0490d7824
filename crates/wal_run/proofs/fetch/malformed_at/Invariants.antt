-- Whole envelopes stand before the rest.
use Rattle.wal_run.proofs.Common.{◌≤◌, ◌-◌, length, take}
use Rattle.wal_run.proofs.Envelopes.{Walks}
use Rattle.wal_run.proofs.fetch.malformed_at.Given as goal

abbrev pub invariant-loop-rest : goal.invariant-loop-rest
invariant-loop-rest l = record {
  left : length l.rest ≤ length l.stream;
  walks : Walks l.stream (take (length l.stream - length l.rest) l.stream) l.rest;
}

abbrev pub decreases-loop-rest : goal.decreases-loop-rest
decreases-loop-rest l = length l.rest
