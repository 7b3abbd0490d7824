-- The openings of the payloads so far.
use Rattle.wal_reader.proofs.Common.{◌≡◌, take, claims_in}
use Rattle.wal_reader.proofs.openings.claims_in.Given as goal

abbrev pub invariant-loop-payload : goal.invariant-loop-payload
invariant-loop-payload l = l.claims.items ≡ claims_in l.id.0 (take l.payload-index l.payload-items)
