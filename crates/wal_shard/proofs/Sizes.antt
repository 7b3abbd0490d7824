-- How long the parts are that a shard holds.
use Rattle.wal_shard.proofs.Common.{ℕ, ◌+◌, ◌*◌, ◌<◌, ◌≤◌, List, length, arith, mul-le-mul_left, mul-le-mul_right, Axis, shard_count, column_count, sliver_symbols, symbol_size, most_bytes, BlobMetadata, IsMetadata, proof_text, EncodingProof, IsProof, matrix_bytes-bound, symbol_size-least, symbol_size-longest, HoldsSliver, IsBadProof}
use Rattle.wal_evidence.proofs.ProofSizes.{bad_proof_long, narrow, length-proof_text}

-- so many pieces of a symbol and a few bytes more are no more than as many of the longest symbol
pub pieces_most : (axis : Axis) (f length more : ℕ) → length ≤ most_bytes → sliver_symbols axis f * (symbol_size f length + more) ≤ column_count f * (symbol_size f most_bytes + more)
pieces_most axis f length more short =
    let wide : symbol_size f length + more ≤ symbol_size f most_bytes + more =
    omega (arith, symbol_size-longest f length short) in
    omega (arith, mul-le-mul_right (symbol_size f length + more) (narrow axis f), mul-le-mul_left (column_count f) wide)

-- a bad proof is no longer than so many openings of the longest symbol
pub bad_proof_most : (digest : List ℕ → List ℕ) (m : BlobMetadata) (q : EncodingProof) → IsMetadata m → IsBadProof digest m q → IsProof q
    → length (proof_text q) ≤ 5 + column_count m.f * (symbol_size m.f most_bytes + 327)
bad_proof_most digest m q fit bad proof =
    omega (arith, bad_proof_long digest m q bad proof, pieces_most q.axis m.f m.length 327 fit.shape.2)

-- the longest slivers fit in a part
pub columns_most : (f : ℕ) → 1 ≤ f → f ≤ 333 → 4 * (column_count f * symbol_size f most_bytes) < 3 * 19374368
columns_most f some few =
    let s = symbol_size f most_bytes in
    let n = shard_count f in
    let four : 4 * (n * s) ≤ n * (n * s) = mul-le-mul_right (n * s) (omega arith) in
    let less : 4 * column_count f * s ≤ 3 * n * s = mul-le-mul_right s (omega arith) in
    omega (arith, matrix_bytes-bound f most_bytes (some, few, omega arith), four, less)

pub proofs_fit : (f : ℕ) → 1 ≤ f → f ≤ 333 → 5 + column_count f * (symbol_size f most_bytes + 327) ≤ most_bytes
proofs_fit f some few = omega (arith, columns_most f some few)

pub sliver_most : (digest : List ℕ → List ℕ) (m : BlobMetadata) (axis : Axis) (index : ℕ) (bytes : List ℕ) → IsMetadata m → HoldsSliver digest m axis index bytes
    → length bytes ≤ column_count m.f * symbol_size m.f most_bytes
sliver_most digest m axis index bytes fit holds =
    omega (arith, pieces_most axis m.f m.length 0 fit.shape.2, holds.size)

-- a sliver and a proof have from 1 byte to as many as a part
at_least : (axis : Axis) (n : ℕ) → 1 ≤ sliver_symbols axis n
at_least axis n = grind arith

pub sliver_least : (digest : List ℕ → List ℕ) (m : BlobMetadata) (axis : Axis) (index : ℕ) (bytes : List ℕ) → HoldsSliver digest m axis index bytes → 1 ≤ length bytes
sliver_least digest m axis index bytes holds =
    omega (arith, holds.size, (symbol_size-least m.f m.length).positive, mul-le-mul_right (symbol_size m.f m.length) (at_least axis m.f))

pub sliver_short : (digest : List ℕ → List ℕ) (m : BlobMetadata) (axis : Axis) (index : ℕ) (bytes : List ℕ) → IsMetadata m → HoldsSliver digest m axis index bytes → length bytes ≤ most_bytes
sliver_short digest m axis index bytes fit holds = omega (arith, sliver_most digest m axis index bytes fit holds, columns_most m.f fit.shape.0 fit.shape.1)

pub proof_short : (digest : List ℕ → List ℕ) (m : BlobMetadata) (q : EncodingProof) → IsMetadata m → IsBadProof digest m q → IsProof q → length (proof_text q) ≤ most_bytes
proof_short digest m q fit bad proof = omega (arith, bad_proof_most digest m q fit bad proof, proofs_fit m.f fit.shape.0 fit.shape.1)

pub proof_some : (q : EncodingProof) → 1 ≤ length (proof_text q)
proof_some q = omega (arith, length-proof_text q)
