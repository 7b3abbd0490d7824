-- What the first proof shows is one result of the command that checks.
use Rattle.wal_run.proofs.Common.{◌≡◌, ◌⊎◌, inl, inr, ⊎_elim, ℕ, List, arith, codes, refl, BlobId, IsShape, EncodingProof, read_of, CarriesProof, IsFirstProof, NoProof, first_not_none, one_first, one_proof, metadata_fits, Recorded, Told, lacks, rejects, checking, verdict_text}
use Rattle.wal_evidence.specs.declared.proof.ProofVerdict.{ProofVerdict}
use Rattle.wal_evidence.specs.declared.proof.ProofVerdict.TheVariants.{Inconsistent}
use Rattle.wal_evidence.specs.BadProof as evidence
use Rattle.wal_evidence.proofs.OneCheck.{one_check}
use Rattle.wal_run.specs.inside.Checking.{verdict_status}
use Rattle.wal_run.proofs.CommandLaws.{Determined, Same, ToldBy, one_by, told_so}

module _ (digest : List ℕ → List ℕ) (id : BlobId) (r : Recorded) where
  -- a verdict is the result
  pub judged_is : (p : EncodingProof) → IsFirstProof id.0 r.payloads p → (v : ProofVerdict) → evidence.Checks digest r.metadata p v
      → Told digest (checking digest id) r (verdict_status v) (verdict_text v)
  judged_is p first Inconsistent is = rejects (codes "inconsistent\n") (p, first, is, refl)
  judged_is p first v is = lacks (verdict_text v) (inr (p, first, v, is, (λ three. cc), refl))

  -- a result is that there is no proof, or a verdict
  abbrev Unproved : ℕ → List ℕ → Type 0
  Unproved s x = NoProof id.0 r.payloads × (s ≡ 4) × (x ≡ codes "no proof\n")

  abbrev Judged : ℕ → List ℕ → Type 0
  Judged s x =
      (p : EncodingProof) × IsFirstProof id.0 r.payloads p × ToldBy (evidence.Checks digest r.metadata p) verdict_status verdict_text s x

  check_of : (s : ℕ) (x : List ℕ) → Told digest (checking digest id) r s x → Unproved s x ⊎ Judged s x
  check_of _ _ (rejects text is) = inr (is.0, is.1, (Inconsistent, is.2, refl, is.3))
  check_of _ _ (lacks text is) =
      ⊎_elim (λ none. inl (none.0, refl, none.1))
      (λ some. inr (some.0, some.1, (some.2, some.3, grind arith, some.5))) is
  check_of s x told = absurd (grind (arith, told_so digest (checking digest id) r s x told))

  one_of : IsShape r.metadata.f r.metadata.length → (s : ℕ) (x : List ℕ) (t : ℕ) (y : List ℕ) → Unproved s x ⊎ Judged s x → Unproved t y ⊎ Judged t y → Same s x t y
  one_of shape s x t y (inl a) (inl b) = grind arith
  one_of shape s x t y (inl a) (inr b) = absurd (first_not_none (CarriesProof id.0) r.payloads b.0 b.1 a.0)
  one_of shape s x t y (inr a) (inl b) = absurd (first_not_none (CarriesProof id.0) r.payloads a.0 a.1 b.0)
  one_of shape s x t y (inr a) (inr b) =
      let proof = one_first (CarriesProof id.0) (λ payload p q at there. one_proof (read_of payload) id.0 p q at there) r.payloads a.0 b.0 a.1 b.1 in
      one_by (evidence.Checks digest r.metadata b.0) verdict_status verdict_text
      (λ v w is also. rw (one_check digest r.metadata b.0 shape v w is also) (refl, inl refl)) (rw proof at a.2) b.2

pub checked_once : (digest : List ℕ → List ℕ) (id : BlobId) → Determined digest (checking digest id)
checked_once digest id input r spells s x t y a b =
    one_of digest id r (metadata_fits digest id.0 r.payloads r.metadata spells.1.0).shape s x t y (check_of digest id r s x a) (check_of digest id r t y b)
