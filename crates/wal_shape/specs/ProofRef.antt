-- What a reference to a proof shows.
use Rattle.wal_shape.specs.declared.proof.ProofRef.{ProofRef}
use Rattle.wal_shape.specs.EncodingProof.{EncodingProof}
use Rattle.wal_shape.specs.ProofReading.{proof_of}

-- the proof that the lent bytes spell
unfoldable pub proof_shown : ProofRef → EncodingProof
proof_shown proof = proof_of proof.head proof.bytes.now
