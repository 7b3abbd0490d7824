-- Openings that hold have a spelling.
use Rattle.wal_commit.proofs.Common.{ℕ, ◌≤◌, List, arith, Axis, Opening, IsBody, IsShape, shard_count, symbol_size, most_bytes, BlobMetadata, IsMetadata, symbol_size-least, height-le, HoldsOpening}

-- no symbol is longer than the largest blob
pub symbol_short : (f length : ℕ) → length ≤ most_bytes → symbol_size f length ≤ most_bytes
symbol_short f length short = (symbol_size-least f length).least most_bytes (omega arith) (omega arith) (omega arith)

-- an opening that holds has its numbers and lengths in range
pub body_of : (digest : List ℕ → List ℕ) (m : BlobMetadata) (axis : Axis) (index : ℕ) (o : Opening) → IsShape m.f m.length
    → HoldsOpening digest m axis index o → IsBody o
body_of digest m axis index o shape holds =
    let short = symbol_short m.f m.length shape.2 in
    let levels = height-le 10 (shard_count m.f) (omega arith) in
    record {
      cross = omega arith;
      symbol = omega (arith, holds.size);
      path = omega (arith, holds.leads.long);
      whole = omega (arith, holds.leads.long);
    }

-- the same for a metadata
pub held_body : (digest : List ℕ → List ℕ) (m : BlobMetadata) (axis : Axis) (index : ℕ) (o : Opening) → IsMetadata m
    → HoldsOpening digest m axis index o → IsBody o
held_body digest m axis index o fit holds = body_of digest m axis index o fit.shape holds
