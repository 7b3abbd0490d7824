-- No payload so far carries a metadata of the identifier.
use Rattle.wal_reader.proofs.Common.{take, BlobMetadata, HasMetadata}
use Rattle.wal_reader.proofs.finding.first_metadata.Given as goal

abbrev pub invariant-loop-payload : goal.invariant-loop-payload
invariant-loop-payload g l = (m : BlobMetadata) → HasMetadata g.H.Hash32.digest l.id.0 (take l.payload-index l.payloads) m → ⊥
