-- The verdict on held slivers is that on the blob that is decoded from them, and there is one.
use Rattle.wal_evidence.proofs.Common.{◌≡◌, ℕ, ◌-◌, ◌*◌, ◌<◌, List, length, take, replicate, slice_index, refl, sym, ap, subst, ◌∙◌, arith, length-take-le, BlobShape, IsShape, row_count, column_count, symbol_size, symbol_size-least, BlobMetadata, IsMetadata, take-append_seam, region, IsExtended, padded, primary_of, IsIdentifierOf, identifier_of, metadata_over, Basis, Slivers, Proof, Verdict, Bytes, IsVerdictOn, Judges, IsJudgedBy, sliver_bytes}
use Rattle.wal_matrix.proofs.ThroughLaws.{source_long}
use Rattle.wal_matrix.proofs.Decoded.{extended_is_through, source_of_extended}
use Rattle.wal_matrix.specs.Through.{IsMatrixThrough, source_of}

-- the shape of a metadata's blob
abbrev pub shape_of : BlobMetadata → BlobShape
shape_of m = record { format = m.format; f = m.f; length = m.length }

-- the block that is decoded for a shape from joined slivers
abbrev pub IsDecoded : BlobShape → List ℕ → List ℕ → List ℕ → Type 0
IsDecoded shape indices joined block = (e : List ℕ) × IsMatrixThrough shape.f (symbol_size shape.f shape.length) indices joined e
    × (block ≡ source_of shape.f (symbol_size shape.f shape.length) e)

-- which is the source block of each matrix through them
abbrev pub IsOnlySource : BlobShape → List ℕ → List ℕ → List ℕ → Type 0
IsOnlySource shape indices joined block = (e : List ℕ) → IsMatrixThrough shape.f (symbol_size shape.f shape.length) indices joined e
    → source_of shape.f (symbol_size shape.f shape.length) e ≡ block

-- one blob has one verdict
pub one_verdict : (digest : List ℕ → List ℕ) (m : BlobMetadata) (blob : List ℕ) (a b : Verdict)
    → IsVerdictOn digest m blob a → IsVerdictOn digest m blob b → a ≡ b
one_verdict digest m blob a b is_a is_b = grind arith

-- whoever judges these slivers gives the verdict on the blob of their only source
pub only_verdict : (digest : List ℕ → List ℕ) (m : BlobMetadata) (shape : BlobShape) (indices joined block blob : List ℕ) (verdict other : Verdict)
    → shape ≡ shape_of m → IsOnlySource shape indices joined block → blob ≡ take shape.length block
    → IsVerdictOn digest m blob verdict → Judges digest m indices joined other → other ≡ verdict
only_verdict digest m shape indices joined block blob verdict other is only cut judged found =
    let source = rw is at only in
    let blob_is : take m.length (source_of m.f (symbol_size m.f m.length) found.0) ≡ blob =
    cc (source found.0 found.1, is, cut) in
    one_verdict digest m blob other verdict (rw blob_is at found.2) judged

-- the decoded block has room for the blob
pub blob_long : (m : BlobMetadata) (shape : BlobShape) (indices joined block blob : List ℕ) → shape ≡ shape_of m → IsDecoded shape indices joined block
    → blob ≡ take shape.length block → length blob ≡ m.length
blob_long m shape indices joined block blob is decoded cut =
    let found : IsDecoded (shape_of m) indices joined block = rw is at decoded in
    let s = symbol_size m.f m.length in
    let long : length block ≡ row_count m.f * (column_count m.f * s) = ap length found.2 ∙ source_long m.f s found.0 found.1.coded.size in
    rw (cut, is) (length-take-le m.length block (omega (arith, long, (symbol_size-least m.f m.length).room)))

-- the identifier of a blob is the only one
pub other_identifier : (digest : List ℕ → List ℕ) (m : BlobMetadata) (shape : BlobShape) (blob bytes id : List ℕ) → shape ≡ shape_of m → bytes ≡ blob
    → ((other : List ℕ) → IsIdentifierOf digest shape.format shape.f bytes other → other ≡ id)
    → IsIdentifierOf digest m.format m.f blob (identifier_of digest m) → id ≡ identifier_of digest m
other_identifier digest m shape blob bytes id is same only =
    λ found. sym (only (identifier_of digest m) (rw (is, same) found))

-- the slivers are those of the extended matrix of a blob that m commits
abbrev pub AreTrue : (List ℕ → List ℕ) → BlobMetadata → Basis → List ℕ → Type 0
AreTrue digest m (Slivers indices joined) blob =
    (e : List ℕ) × IsExtended m.f blob e × (m ≡ metadata_over digest (record { format = m.format; f = m.f; length = length blob }) e)
    × ((k : ℕ) → k < length indices
    → primary_of m.f (symbol_size m.f m.length) e (slice_index indices k) ≡ region (sliver_bytes m) joined k)
AreTrue digest m (Proof p) blob = ⊥

-- the slivers of a committed blob lead to that blob
pub true_verdict : (digest : List ℕ → List ℕ) (m : BlobMetadata) (basis : Basis) (blob : List ℕ) → IsMetadata m → AreTrue digest m basis blob
    → IsJudgedBy digest m basis (Bytes blob)
unfolding metadata_over padded
true_verdict digest m (Slivers indices joined) blob fit is =
    let e = is.0 in
    let length_is : m.length ≡ length blob = ap (λ (x : BlobMetadata). x.length) is.2 in
    let through = extended_is_through m.f blob indices joined e is.1 (rw length_is at is.3) in
    let shape = subst (IsShape m.f) length_is fit.shape in
    let cut : take (length blob) (source_of m.f (symbol_size m.f (length blob)) e) ≡ blob =
    ap (λ (b : List ℕ). take (length blob) b) (source_of_extended m.f blob e is.1)
    ∙ take-append_seam blob (replicate (row_count m.f * column_count m.f * symbol_size m.f (length blob) - length blob) 0) in (
      e,
      rw length_is through,
      subst (λ (b : List ℕ). IsVerdictOn digest m b (Bytes blob)) (sym (rw length_is cut))
          (refl, (m, (e, is.1, is.2, shape), record { fit = fit; identifier = refl })),
    )
true_verdict digest m (Proof p) blob fit is = absurd is

-- so that no other verdict is found
pub true_blob : (digest : List ℕ → List ℕ) (m : BlobMetadata) (basis : Basis) (verdict : Verdict) → IsMetadata m
    → ((other : Verdict) → IsJudgedBy digest m basis other → other ≡ verdict) → (blob : List ℕ) → AreTrue digest m basis blob → verdict ≡ Bytes blob
true_blob digest m basis verdict fit only blob is = sym (only (Bytes blob) (true_verdict digest m basis blob fit is))
