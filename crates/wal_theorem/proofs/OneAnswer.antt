-- Where no two texts collide, an identifier has one blob, and all completed answers for it have one verdict.
use Rattle.wal_theorem.proofs.Common.{◌≡◌, ℕ, ◌-◌, ◌*◌, List, length, take, replicate, slice_index, refl, sym, ap, subst, ◌∙◌, arith, region, BlobId, Primary, Format, row_count, column_count, symbol_size, crossing, BlobMetadata, IsMetadata, EncodingProof, metadata_text, proof_text, symbol_size-least, path_over, padded, line_of, primary_of, source_of, AreBytes, bytes_of_part, source_of_extended, bytes_within, source-row, source_by_rows, source_long, line_is_word, Commits, IsIdentifierOf, IsMetadataOf, metadata_over, committed_matrix, committed_opening, IsBadProof, AreHeld, CommitsMatrix, IsEvidence, IsJudgedBy, sliver_bytes, Basis, Evidence, Slivers, Verdict, true_verdict, First, Judged, Written, verdict_of, IsBackedBy, BasisOfBytes, FirstOfBytes, honest_bytes, IsOneToOne, one_metadata, one_sliver, one_symbol, path_bytes, Opening, Proof, Bytes, Reject}
use Rattle.std.proofs.Math.Seq.{take-append_seam}
use Rattle.std.proofs.lemmas.Option.{get_or_from_slice_get, slice_get_within}
use Rattle.wal_evidence.proofs.FalseOpenings.{false_opening}
use Rattle.wal_evidence.proofs.FalseSlivers.{matrix_holds}
use Rattle.wal_theorem.proofs.OneReading.{one_judgement}
use Rattle.wal_theorem.proofs.TextBytes.{OpeningBytes, proof_openings}

-- ---- matrices

-- the metadata of a blob is that of a matrix, by its own numbers
pub as_matrix : (digest : List ℕ → List ℕ) (format : Format) (f : ℕ) (blob : List ℕ) (m : BlobMetadata) → IsMetadataOf digest format f blob m → (e : List ℕ) × CommitsMatrix digest m blob e
unfolding metadata_over
as_matrix digest format f blob m (e, extended, over, shape) =
    let f_is : f ≡ m.f = sym (ap (λ (x : BlobMetadata). x.f) over) in
    let format_is : format ≡ m.format = sym (ap (λ (x : BlobMetadata). x.format) over) in
    (e, (rw f_is at extended, rw (f_is, format_is) at over))

-- the blob is the first bytes of the source block
blob_of : (digest : List ℕ → List ℕ) (m : BlobMetadata) (blob e : List ℕ) → CommitsMatrix digest m blob e → take m.length (source_of m.f (symbol_size m.f m.length) e) ≡ blob
unfolding metadata_over padded
blob_of digest m blob e is =
    let length_is : m.length ≡ length blob = ap (λ (x : BlobMetadata). x.length) is.1 in
    rw length_is
    (ap (take (length blob)) (source_of_extended m.f blob e is.0)
    ∙ take-append_seam blob
    (replicate (row_count m.f * column_count m.f * symbol_size m.f (length blob) - length blob) 0))

module _ (digest : List ℕ → List ℕ) (one : IsOneToOne digest) where
  -- a metadata is that of one blob
  one_blob_of : (m : BlobMetadata) (x y d e : List ℕ) → CommitsMatrix digest m x d → CommitsMatrix digest m y e → x ≡ y
  one_blob_of m x y d e is_x is_y =
      let s = symbol_size m.f m.length in
      let long_e = (committed_matrix digest m y e is_y.0 is_y.1).size in
      let sources : source_of m.f s e ≡ source_of m.f s d =
      source_by_rows m.f s d (source_of m.f s e) (omega (arith, (symbol_size-least m.f m.length).positive))
      (committed_matrix digest m x d is_x.0 is_x.1).size (source_long m.f s e long_e)
      (λ r hr. source-row m.f s e r long_e hr
      ∙ one_sliver digest one m Primary r (primary_of m.f s e r) (primary_of m.f s d r) (matrix_holds digest m y e r is_y (omega arith)) (matrix_holds digest m x d r is_x (omega arith))) in
      sym (blob_of digest m x d is_x) ∙ ap (take m.length) (sym sources) ∙ blob_of digest m y e is_y

  -- an identifier has one metadata of a blob
  same_metadata : (format : Format) (n : ℕ) (blob id : List ℕ) (other : BlobMetadata) → (is : IsIdentifierOf digest format n blob id) → Commits digest id other → AreBytes (metadata_text other)
      → is.0 ≡ other
  same_metadata format n blob id other (m, is, commits) committed bytes =
      one_metadata digest one m other commits.fit committed.fit (honest_bytes digest one.digests format n blob m is) bytes (sym commits.identifier ∙ committed.identifier)

  pub one_blob : (g h : Format) (k l : ℕ) (x y id : List ℕ) → IsIdentifierOf digest g k x id → IsIdentifierOf digest h l y id → x ≡ y
  one_blob g h k l x y id (m, is_m, commits_m) (o, is_o, commits_o) =
      let same = same_metadata g k x id o (m, is_m, commits_m) commits_o (honest_bytes digest one.digests h l y o is_o) in
      let first = as_matrix digest g k x m is_m in
      let other = as_matrix digest h l y o is_o in
      one_blob_of o x y first.0 other.0 (subst (λ (z : BlobMetadata). CommitsMatrix digest z x first.0) same first.1) other.1

  -- ---- a blob that is committed is not rejected

  module _ (m : BlobMetadata) (fit : IsMetadata m) (blob e : List ℕ) (is : CommitsMatrix digest m blob e) where
    slivers_judged : (indices joined : List ℕ) → AreHeld digest m indices joined → IsJudgedBy digest m (Slivers indices joined) (Bytes blob)
    slivers_judged indices joined held =
        let s = symbol_size m.f m.length in
        true_verdict digest m (Slivers indices joined) blob fit (
          e,
          is.0,
          is.1,
          λ k l. one_sliver digest one m Primary (slice_index indices k) (primary_of m.f s e (slice_index indices k)) (region (sliver_bytes m) joined k)
              (matrix_holds digest m blob e (slice_index indices k) is (held.held k l).within) (held.held k l),
        )

    proof_accepts : (p : EncodingProof) → AreBytes (proof_text p) → IsBadProof digest m p → ⊥
    proof_accepts p bytes bad =
        let s = symbol_size m.f m.length in
        let found = false_opening digest m p blob e fit.shape bad is in
        let o = found.1 in
        let held = found.4 in
        let coded = committed_matrix digest m blob e is.0 is.1 in
        let at = get_or_from_slice_get p.openings found.0 o o found.2 in
        let own : OpeningBytes o = subst OpeningBytes at (proof_openings p bytes found.0 o (slice_get_within p.openings found.0 o found.2)) in
        let line = line_of p.axis m.f s e p.index in
        let cross = line_of (crossing p.axis) m.f s e o.cross in
        let line_bytes = bytes_within line (line_is_word p.axis m.f s e p.index coded held.within).coded.fits in
        let cross_bytes = bytes_within cross (line_is_word (crossing p.axis) m.f s e o.cross coded held.cross).coded.fits in
        let honest = committed_opening digest m blob e is.0 is.1 one.digests.size p.axis p.index o.cross fit.shape.1 held.within held.cross in
        let true_one : Opening = record { cross = o.cross; symbol = region s line o.cross; path = path_over digest s cross p.index } in
        found.3
        (one_symbol digest one m p.axis p.index o true_one refl held honest own.symbol own.path (bytes_of_part s (s * o.cross) line line_bytes) (path_bytes digest one.digests s cross p.index cross_bytes))

    judged : (basis : Basis) → BasisOfBytes basis → (id : List ℕ) → IsEvidence digest id (record { metadata = m; basis = basis }) → IsJudgedBy digest m basis (Bytes blob)
    judged (Slivers indices joined) bytes id evidence = slivers_judged indices joined evidence.held
    judged (Proof p) bytes id evidence = absurd (proof_accepts p bytes evidence.held)

  -- so evidence for a blob's identifier leads to the blob
  pub judged_as : (format : Format) (n : ℕ) (blob id : List ℕ) (e : Evidence) → IsIdentifierOf digest format n blob id → IsEvidence digest id e
      → AreBytes (metadata_text e.metadata) → BasisOfBytes e.basis → IsJudgedBy digest e.metadata e.basis (Bytes blob)
  judged_as format n blob id e (m, is, commits) evidence bytes basis =
      let one_is = same_metadata format n blob id e.metadata (m, is, commits) evidence.committed bytes in
      let matrix = as_matrix digest format n blob m is in
      judged e.metadata evidence.committed.fit blob matrix.0 (subst (λ (x : BlobMetadata). CommitsMatrix digest x blob matrix.0) one_is matrix.1) e.basis basis id evidence

  -- ---- answers

  -- one piece of evidence leads to one verdict
  one_judged : (id : List ℕ) (m : BlobMetadata) (basis : Basis) (a b : Verdict) → IsEvidence digest id (record { metadata = m; basis = basis }) → IsJudgedBy digest m basis a
      → IsJudgedBy digest m basis b → a ≡ b
  one_judged id m (Slivers indices joined) a b evidence is_a is_b = one_judgement digest m indices joined evidence.committed.fit evidence.held a b is_a is_b
  one_judged id m (Proof p) a b evidence is_a is_b = is_a ∙ sym is_b

  -- bytes that were answered have the identifier
  abbrev HasIdentifier : List ℕ → List ℕ → Type 0
  HasIdentifier blob id = (format : Format) × (n : ℕ) × IsIdentifierOf digest format n blob id

  judged_bytes : (id blob : List ℕ) (m : BlobMetadata) (basis : Basis) → IsEvidence digest id (record { metadata = m; basis = basis }) → IsJudgedBy digest m basis (Bytes blob) → HasIdentifier blob id
  judged_bytes id blob m (Slivers indices joined) evidence (e, through, verdict) =
      (m.format, m.f, rw (evidence.committed.identifier, verdict.0) verdict.1)
  judged_bytes id blob m (Proof p) evidence judged = absurd cc

  answered_bytes : (f : ℕ) (id : BlobId) (a : First) (blob : List ℕ) → IsBackedBy digest f id a → verdict_of a ≡ Bytes blob → HasIdentifier blob id.0
  answered_bytes f id (Written bytes) blob backed same =
      let bytes_is : bytes ≡ blob = cc in
      (backed.0, f, rw bytes_is at backed.1)
  answered_bytes f id (Judged evidence verdict) blob backed same =
      judged_bytes id.0 blob evidence.metadata evidence.basis backed.0 (rw same at backed.1)

  -- and each answer is that they are
  answers : (f : ℕ) (id : BlobId) (blob : List ℕ) (a : First) → HasIdentifier blob id.0 → IsBackedBy digest f id a → FirstOfBytes a → verdict_of a ≡ Bytes blob
  answers f id blob (Written bytes) (format, n, has) backed bytes_a = cc (one_blob backed.0 format f n bytes blob id.0 backed.1 has)
  answers f id blob (Judged evidence verdict) (format, n, has) backed bytes_a =
      one_judged id.0 evidence.metadata evidence.basis verdict (Bytes blob) backed.0 backed.1
      (judged_as format n blob id.0 evidence has backed.0 bytes_a.0 bytes_a.1)

  -- so two answers have one verdict
  pub one_answer : (f : ℕ) (id : BlobId) (a b : First) → IsBackedBy digest f id a → FirstOfBytes a → IsBackedBy digest f id b → FirstOfBytes b → verdict_of a ≡ verdict_of b
  one_answer f id a b backed_a bytes_a backed_b bytes_b = by (verdict_of a) (verdict_of b) refl refl
    where
      by : (v w : Verdict) → verdict_of a ≡ v → verdict_of b ≡ w → verdict_of a ≡ verdict_of b
      by (Bytes x) w is_a is_b = is_a ∙ sym (answers f id x b (answered_bytes f id a x backed_a is_a) backed_b bytes_b)
      by v (Bytes y) is_a is_b = answers f id y a (answered_bytes f id b y backed_b is_b) backed_a bytes_a ∙ sym is_b
      by Reject Reject is_a is_b = is_a ∙ sym is_b
