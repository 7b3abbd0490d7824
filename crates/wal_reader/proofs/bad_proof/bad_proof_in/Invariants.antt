-- No payload so far carries a bad proof of the identifier.
use Rattle.wal_reader.proofs.Common.{◌≡◌, take, metadata_shown, NoBadProof}
use Rattle.wal_reader.proofs.bad_proof.bad_proof_in.Given as goal

abbrev pub invariant-loop-payload : goal.invariant-loop-payload
invariant-loop-payload g l =
    record {
      none : NoBadProof g.H.Hash32.digest l.id.0 (metadata_shown l.m) (take l.payload-index l.payload-items);
      f : l.work.f ≡ (metadata_shown l.m).f;
    }
