-- No payload so far carries a proof of the identifier.
use Rattle.wal_reader.proofs.Common.{take, NoProof}
use Rattle.wal_reader.proofs.bad_proof.proof_in.Given as goal

abbrev pub invariant-loop-payload : goal.invariant-loop-payload
invariant-loop-payload l = NoProof l.id.0 (take l.payload-index l.payload-items)
