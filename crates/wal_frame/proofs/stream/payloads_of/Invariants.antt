use Rattle.wal_frame.proofs.Common.{◌≡◌, ◌-◌, ◌≤◌, length, behind, stream_of}
use Rattle.wal_frame.proofs.stream.payloads_of.Given as goal

-- the payloads so far and those of the bytes left are those of all bytes
abbrev pub invariant-loop-rest : goal.invariant-loop-rest
invariant-loop-rest l = record {
  left : length l.rest ≤ length l.stream;
  same : behind l.payloads.items (length l.stream - length l.rest) (stream_of l.rest) ≡ stream_of l.stream;
}

abbrev pub decreases-loop-rest : goal.decreases-loop-rest
decreases-loop-rest l = length l.rest
