-- The commands whose every text is a line.
use Rattle.walrus_c.proofs.Common.{◌≡◌, ℕ, ◌≤◌, List, [], ◌∷◌, length, length-append, codes, refl, ap, ◌∙◌, arith, inl, inr, Axis, BlobId, Format, IsShape, sliver_symbols, EncodingProof, BlobMetadata, identifier_of, Checks, ProofVerdict, IsMetadataIn, claims_in, Audit, encode_lower, checking, verdict_text}
use Rattle.std.proofs.lemmas.Option.{slice_get_within}
use Rattle.wal_evidence.specs.declared.proof.ProofVerdict.TheVariants.{BadOpening}
use Rattle.wal_run.specs.Identifying.{identifying}
use Rattle.wal_run.specs.Verifying.{verifying}
use Rattle.walrus_c.proofs.Lengths.{digits, one_fits, two_fits, Tells, succeeds, rejects, lacks, claims_few, payloads_few}

-- the shape that a recorded metadata has
pub shape_of : (digest : List ℕ → List ℕ) (id : List ℕ) (payloads : List (List ℕ)) (m : BlobMetadata)
    → IsMetadataIn digest id payloads m → IsShape m.f m.length
shape_of digest id payloads m is = is.0.4.1.fit.shape

module _ (digest : List ℕ → List ℕ) where
  -- the identifier in digits, and a newline
  pub identified : (size_is : (text : List ℕ) → length (digest text) ≡ 32) (f : ℕ) (format : Format) (input : List ℕ)
      → Tells digest (identifying digest f format) input 65
  unfolding identifier_of
  identified size_is f format input succeeds content spells text is =
      let long : length is.0 ≡ 32 = ap length is.1.2.identifier ∙ size_is _ in
      omega (arith, ap length is.2, length-append (encode_lower is.0) (10 ∷ []), digits is.0, long)
  identified size_is f format input other content spells text none = absurd none

  -- ---- check

  symbols_most : (axis : Axis) (f : ℕ) → f ≤ 333 → sliver_symbols axis f ≤ 667
  symbols_most axis f most = grind arith

  verdict_short : (m : BlobMetadata) (p : EncodingProof) (v : ProofVerdict) → m.f ≤ 333 → Checks digest m p v → length (verdict_text v) ≤ 272
  verdict_short m p (BadOpening place) most is =
      let there = slice_get_within p.openings place is.2.opening is.2.there in
      one_fits 272 (codes "bad opening ") place _ (omega arith) (omega arith)
      (omega (arith, there, is.0, symbols_most p.axis m.f most)) refl
  verdict_short m p other most is = omega arith

  -- what `check` tells has room in 272 bytes
  pub checked : (id : BlobId) (input : List ℕ) → Tells digest (checking digest id) input 272
  checked id input rejects r spells text is = omega (arith, ap length is.3)
  checked id input lacks r spells text (inl none) = omega (arith, ap length none.1)
  checked id input lacks r spells text (inr shown) =
      let shape = shape_of digest id.0 r.payloads r.metadata spells.1 in
      omega (arith, ap length shown.5, verdict_short r.metadata shown.0 shown.2 shape.1 shown.3)
  checked id input other r spells text none = absurd none

  -- ---- verify

  -- what `verify` tells has room in 272 bytes
  pub verified : (a : Audit) (input : List ℕ) → a.count ≤ 1000 → length input ≤ 134217728
      → Tells digest (verifying digest a) input 272
  verified a input few within succeeds r spells text is = omega (arith, ap length is.2)
  verified a input few within rejects r spells text is =
      let there = slice_get_within (claims_in a.id.0 r.payloads) is.1 is.2.1.claim is.2.1.there in
      one_fits 272 (codes "wrong ") is.1 text (omega arith) (omega arith)
      (omega (arith, there, claims_few a.id.0 r.payloads, payloads_few r.payloads input spells.0, within)) is.3
  verified a input few within lacks r spells text (inl none) = omega (arith, ap length none.1)
  verified a input few within lacks r spells text (inr (shard, k, come, is)) =
      two_fits 272 (codes "wrong count ") (codes " of ") k a.count text (omega arith) (omega arith)
      (omega (arith, come.0, claims_few a.id.0 r.payloads, payloads_few r.payloads input spells.0, within))
      (omega (arith, few)) is
  verified a input few within other r spells text none = absurd none
