-- Whole envelopes without a request stand before the rest.
use Rattle.wal_gateway.proofs.Common.{◌≤◌, ◌-◌, length, take}
use Rattle.wal_gateway.proofs.RequestLaws.{Passes}
use Rattle.wal_gateway.proofs.request.first_request.Given as goal

abbrev pub invariant-loop-payload : goal.invariant-loop-payload
invariant-loop-payload l = record {
  left : length l.rest ≤ length l.stream;
  passes : Passes l.stream (take (length l.stream - length l.rest) l.stream) l.rest;
}

abbrev pub decreases-loop-payload : goal.decreases-loop-payload
decreases-loop-payload l = length l.rest
