-- A proof has one verdict.
use Rattle.wal_evidence.proofs.Common.{◌≡◌, ℕ, ◌<◌, List, All, Some, slice_get, ap, subst, ◌∙◌, arith, get_or-take, length-take-le, get_or_from_slice_get, slice_get_within, Opening, IsShape, BlobMetadata, EncodingProof, HoldsOpening, Checks, IsBadProof, IsConsistent, IsFirstBad, BadOpening}
use Rattle.wal_evidence.specs.declared.proof.ProofVerdict.{ProofVerdict}
use Rattle.wal_evidence.proofs.OneLine.{one_line}

module _ (digest : List ℕ → List ℕ) (m : BlobMetadata) (p : EncodingProof) where
  -- an opening before the first bad one holds
  earlier_holds : (i j : ℕ) (o : Opening) → IsFirstBad digest m p j → i < j → slice_get p.openings i ≡ Some o → HoldsOpening digest m p.axis p.index o
  earlier_holds i j o bad before there =
      let inside = slice_get_within p.openings i o there in
      let below = slice_get_within p.openings j bad.opening bad.there in
      let long = length-take-le j p.openings (omega arith) in
      subst (HoldsOpening digest m p.axis p.index)
      (get_or-take j p.openings i o before ∙ get_or_from_slice_get p.openings i o o there)
      (bad.before i o (omega arith))

  one_place : (i j : ℕ) → IsFirstBad digest m p i → IsFirstBad digest m p j → i ≡ j
  one_place i j a b = grind (arith, earlier_holds i j a.opening b, earlier_holds j i b.opening a)

  none_bad : (i : ℕ) → All (HoldsOpening digest m p.axis p.index) p.openings → IsFirstBad digest m p i → ⊥
  none_bad i held bad =
      bad.bad (rw (get_or_from_slice_get p.openings i bad.opening bad.opening bad.there) at
      (held i bad.opening (slice_get_within p.openings i bad.opening bad.there)))

  -- a codeword has one root
  pub one_root : IsShape m.f m.length → IsConsistent digest m p → IsBadProof digest m p → ⊥
  one_root shape good bad =
      bad.root (rw (one_line digest m p.axis p.index p.openings good.line.enough shape good.word bad.word
      good.line.through bad.line.through) at good.root)

  -- of the cases one applies
  pub one_check : IsShape m.f m.length → (a b : ProofVerdict) → Checks digest m p a → Checks digest m p b → a ≡ b
  one_check shape (BadOpening i) (BadOpening j) is_a is_b = ap BadOpening (one_place i j is_a.2 is_b.2)
  one_check shape (BadOpening i) b is_a is_b = grind (arith, none_bad i)
  one_check shape a (BadOpening j) is_a is_b = grind (arith, none_bad j)
  one_check shape a b is_a is_b = grind (arith, one_root shape)
