-- How long the spelling of a bad proof is.
use Rattle.wal_evidence.proofs.Common.{◌≡◌, ℕ, ◌+◌, ◌*◌, ◌≤◌, All, List, [], ◌∷◌, length, ap, arith, AllByRecursion, flat_map, All-head, All-tail, Axis, Opening, column_count, sliver_symbols, symbol_size, BlobMetadata, IsBody, EncodingProof, IsProof, IsBadProof, length-append}
use Rattle.wal_shape.specs.Spelling.{body_text, proof_text}
use Rattle.wal_shape.proofs.BodyLaws.{length-body_text}

abbrev has_size : ℕ → Opening → Type 0
has_size s o = length o.symbol ≡ s

pub length-proof_text : (q : EncodingProof) → length (proof_text q) ≡ 5 + length (flat_map body_text q.openings)
unfolding proof_text
length-proof_text q = omega arith

bodies_most : (s : ℕ) (openings : List Opening) → AllByRecursion IsBody openings → All (has_size s) openings → length (flat_map body_text openings) ≤ length openings * (s + 327)
bodies_most s [] fit sized = omega arith
bodies_most s (o ∷ os) fit sized =
    let size : length o.symbol ≡ s = All-head (has_size s) o os sized in
    let rest = bodies_most s os fit.1 (All-tail (has_size s) o os sized) in
    omega (arith, length-append (body_text o) (flat_map body_text os), length-body_text o, size, rest, fit.0.path)

-- a sliver has no more symbols than a primary one
pub narrow : (axis : Axis) (f : ℕ) → sliver_symbols axis f ≤ column_count f
narrow axis f = grind arith

-- a bad proof has an opening for each symbol of a sliver, each of a symbol and a path
pub bad_proof_long : (digest : List ℕ → List ℕ) (m : BlobMetadata) (q : EncodingProof) → IsBadProof digest m q → IsProof q
    → length (proof_text q) ≤ 5 + sliver_symbols q.axis m.f * (symbol_size m.f m.length + 327)
bad_proof_long digest m q bad proof =
    let s = symbol_size m.f m.length in
    let sized : All (has_size s) q.openings = λ k d l. (bad.line.enough.held k d l).size in
    let bodies = bodies_most s q.openings proof.bodies sized in
    let count : length q.openings * (s + 327) ≡ sliver_symbols q.axis m.f * (s + 327) = ap (λ (n : ℕ). n * (s + 327)) bad.line.enough.count in
    omega (arith, length-proof_text q, bodies, count)
