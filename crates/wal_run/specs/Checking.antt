-- The command that checks the first proof of bad encoding among recorded envelopes.
use Rattle.std.specs.Prelude.{◌≡◌, ◌≢◌, ◌⊎◌, ℕ, List, codes}
use Rattle.wal_shape.specs.declared.metadata.BlobId.{BlobId}
use Rattle.wal_shape.specs.EncodingProof.{EncodingProof}
use Rattle.wal_reader.specs.Carried.{IsFirstProof, NoProof}
use Rattle.wal_evidence.specs.declared.proof.ProofVerdict.{ProofVerdict}
use Rattle.wal_evidence.specs.declared.proof.ProofVerdict.TheVariants.{WrongCount, Repeated}
use Rattle.wal_evidence.specs.declared.proof.ProofVerdict.TheVariants.{BadOpening, Consistent}
use Rattle.wal_evidence.specs.declared.proof.ProofVerdict.TheVariants.{Inconsistent}
use Rattle.wal_evidence.specs.BadProof.{Checks, IsBadProof}
use Rattle.wal_run.specs.Command.{Command, bare, envelopes_of}
use Rattle.wal_run.specs.Lines.{number_text}

-- the text of a verdict on a proof
abbrev pub verdict_text : ProofVerdict → List ℕ
verdict_text WrongCount = codes "wrong count\n"
verdict_text Repeated = codes "repeated\n"
verdict_text (BadOpening place) = number_text (codes "bad opening ") place
verdict_text Consistent = codes "consistent\n"
verdict_text Inconsistent = codes "inconsistent\n"

-- what the first proof of the identifier shows
abbrev pub checking : (List ℕ → List ℕ) → BlobId → Command
checking digest id = record (bare 134217728 (envelopes_of id)) {
  -- that the blob was encoded badly
  Rejects = λ recorded text. (proof : EncodingProof) × IsFirstProof id.0 recorded.payloads proof
      × IsBadProof digest recorded.metadata proof × (text ≡ codes "inconsistent\n");
  -- there is none, or it shows nothing, for this reason
  Lacks = λ recorded text. (NoProof id.0 recorded.payloads × (text ≡ codes "no proof\n"))
      ⊎ ((proof : EncodingProof) × IsFirstProof id.0 recorded.payloads proof
      × (verdict : ProofVerdict)
      × Checks digest recorded.metadata proof verdict × (verdict ≢ Inconsistent)
      × (text ≡ verdict_text verdict));
}
