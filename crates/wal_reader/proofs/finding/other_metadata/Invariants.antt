-- No payload so far carries another metadata of the identifier.
use Rattle.wal_reader.proofs.Common.{◌≡◌, take, BlobMetadata, metadata_shown, HasMetadata}
use Rattle.wal_reader.proofs.finding.other_metadata.Given as goal

abbrev pub invariant-loop-payload : goal.invariant-loop-payload
invariant-loop-payload g l =
    (other : BlobMetadata) → HasMetadata g.H.Hash32.digest l.id.0 (take l.payload-index l.payloads) other → other ≡ metadata_shown l.m
