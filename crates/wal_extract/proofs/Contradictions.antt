-- A blob and the matrix of its metadata, and the blob that evidence leads to.
use Rattle.wal_extract.proofs.Common.{◌≡◌, ◌≢◌, ℕ, List, length, sym, ap, ◌∙◌, arith, length-take-le, BlobShape, symbol_size, BlobMetadata, symbol_size-least, IsExtended, IsIdentifierOf, identifier_of, metadata_over, Proof, Slivers, Bytes, CommitsMatrix, IsEvidence, IsJudgedBy, shape_of}
use Rattle.wal_matrix.proofs.ThroughLaws.{source_long}
use Rattle.wal_evidence.specs.declared.evidence.Basis.{Basis}
use Rattle.wal_evidence.specs.declared.evidence.Evidence.{Evidence}
use Rattle.wal_evidence.specs.declared.evidence.Verdict.{Verdict}
use Rattle.wal_extract.specs.Contrary.{ContradictsBlob}

-- the metadata over the matrix of a blob commits that matrix
pub commits_matrix : (digest : List ℕ → List ℕ) (shape x : BlobShape) (m : BlobMetadata) (bytes e : List ℕ) → x ≡ shape → length bytes ≡ shape.length → IsExtended shape.f bytes e →
    metadata_over digest x e ≡ m → CommitsMatrix digest m bytes e
unfolding metadata_over
commits_matrix digest shape x m bytes e shape_is fits extended same = rw (← same, shape_is) (extended, rw fits)

-- the blob that evidence leads to has the length of the metadata, and its identifier
led : (digest : List ℕ → List ℕ) (m : BlobMetadata) (basis : Basis) (blob : List ℕ)
    → IsJudgedBy digest m basis (Bytes blob)
    → (length blob ≡ m.length) × IsIdentifierOf digest m.format m.f blob (identifier_of digest m)
led digest m (Slivers indices joined) blob judged =
    let long = source_long m.f (symbol_size m.f m.length) judged.0 judged.1.coded.size in
    let room = (symbol_size-least m.f m.length).room in
    (ap length judged.2.0 ∙ length-take-le m.length _ (omega (arith, long, room)), rw judged.2.0 judged.2.1)
led digest m (Proof p) blob judged = cc

-- in other words
pub fits : (digest : List ℕ → List ℕ) (a : Evidence) (shape : BlobShape) (blob bytes : List ℕ) (left : Verdict) → IsJudgedBy digest a.metadata a.basis left → left ≡ Bytes blob →
    shape ≡ shape_of a.metadata → bytes ≡ blob → length bytes ≡ shape.length
fits digest a shape blob bytes left judged left_is shape_is bytes_is =
    rw (bytes_is, shape_is) (led digest a.metadata a.basis blob (rw left_is at judged)).0

-- evidence with another verdict contradicts the blob that evidence leads to
pub contradicts : (digest : List ℕ → List ℕ) (a b : Evidence) (id : List ℕ) (shape : BlobShape) (blob bytes : List ℕ) (left right left_verdict right_verdict : Verdict) →
    IsEvidence digest id a → IsEvidence digest id b → IsJudgedBy digest a.metadata a.basis left → left ≡ Bytes blob → shape ≡ shape_of a.metadata → bytes ≡ blob →
    ((other : Verdict) → IsJudgedBy digest a.metadata a.basis other → other ≡ left) → ((other : Verdict) → IsJudgedBy digest b.metadata b.basis other → other ≡ right) →
    IsJudgedBy digest a.metadata a.basis left_verdict → IsJudgedBy digest b.metadata b.basis right_verdict → left_verdict ≢ right_verdict →
    ContradictsBlob digest shape bytes b
contradicts digest a b id shape blob bytes left right left_verdict right_verdict of_a of_b judged left_is shape_is bytes_is only_a only_b left_judged right_judged differ =
    record {
      id = id;
      identifier = rw (shape_is, bytes_is, of_a.committed.identifier)
          (led digest a.metadata a.basis blob (rw left_is at judged)).1;
      evidence = of_b;
      other = λ same.
          differ (only_a left_verdict left_judged ∙ left_is ∙ ap Bytes (sym bytes_is) ∙ only_b (Bytes bytes) same ∙ sym (only_b right_verdict right_judged));
    }
