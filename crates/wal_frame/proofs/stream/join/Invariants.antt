use Rattle.wal_frame.proofs.Common.{◌≡◌, take, flat_map, envelope}
use Rattle.wal_frame.proofs.stream.join.Given as goal

-- the envelopes of the payloads so far
abbrev pub invariant-loop-payload : goal.invariant-loop-payload
invariant-loop-payload l = l.out.items ≡ flat_map (envelope l.sender) (take l.payload-index l.payload-items)
