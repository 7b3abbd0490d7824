-- The openings of the payloads so far.
use Rattle.wal_reader.proofs.Common.{◌≡◌, take, openings_in}
use Rattle.wal_reader.proofs.openings.openings_in.Given as goal

abbrev pub invariant-loop-payload : goal.invariant-loop-payload
invariant-loop-payload l = l.openings.items ≡ openings_in l.id.0 l.axis l.index (take l.payload-index l.payload-items)
