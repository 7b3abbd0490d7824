-- The room that a desk takes.
use Rattle.std.specs.Prelude.{◌≡◌, ℕ, ◌+◌, ◌*◌, List, ⊤}
use Rattle.wal_shape.specs.Shape.{column_count, symbol_size, most_bytes}
use Rattle.wal_shape.specs.Metadata.{BlobMetadata, IsMetadata}
use Rattle.wal_commit.specs.Held.{HoldsSliver}
use Rattle.wal_evidence.specs.BadProof.{IsBadProof}
use Rattle.wal_frame.specs.Frame.{Frame, Metadata, Sliver, Proof, Read, Symbol, Ack, Attest, Forget}
use Rattle.wal_frame.specs.Frame.{RegisterEntry, AckEntry, AttestEntry}

-- the longest payload that is looked at: at least as long as a proof of bad encoding of the longest
-- blob
abbrev pub desk_room : ℕ → ℕ
desk_room f = 38 + column_count f * (symbol_size f most_bytes + 327)

-- the frames that must have room at a shard of a committee of f: a metadata, of whatever f; a
-- sliver that a metadata of f commits; and a proof of bad encoding for one
abbrev pub MayVerify : (List ℕ → List ℕ) → ℕ → Frame → Type 0
MayVerify digest f (Metadata metadata) = ⊤
MayVerify digest f (Sliver id axis index bytes) =
    (metadata : BlobMetadata) × IsMetadata metadata × (metadata.f ≡ f)
    × HoldsSliver digest metadata axis index bytes
MayVerify digest f (Proof id proof) =
    (metadata : BlobMetadata) × IsMetadata metadata × (metadata.f ≡ f)
    × IsBadProof digest metadata proof
MayVerify digest f _ = ⊥

-- the requests that carry no part of a blob
abbrev pub AsksOnly : Frame → Type 0
AsksOnly (Read id) = ⊤
AsksOnly (Symbol id axis index) = ⊤
AsksOnly (Ack id) = ⊤
AsksOnly (Attest id) = ⊤
AsksOnly (Forget id) = ⊤
AsksOnly (RegisterEntry id until) = ⊤
AsksOnly (AckEntry shard id) = ⊤
AsksOnly (AttestEntry shard id) = ⊤
AsksOnly _ = ⊥
