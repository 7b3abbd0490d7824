-- What holds of each blob in the list, and of what payloads say against it.
use Rattle.std.specs.Prelude.{◌≡◌, ◌⊎◌, ℕ, ◌≤◌, List, Some, Contains, length}
use Rattle.std.specs.List.{IsDistinct}
use Rattle.std.specs.Map.{keys_of}
use Rattle.wal_shape.specs.declared.metadata.BlobId.{BlobId}
use Rattle.wal_shape.specs.Identifiers.{id_eq}
use Rattle.wal_commit.specs.Identifier.{IsIdentifierOf}
use Rattle.wal_evidence.specs.declared.evidence.Evidence.{Evidence}
use Rattle.wal_evidence.specs.declared.evidence.Verdict.TheVariants.{Bytes}
use Rattle.wal_evidence.specs.Evidence.{IsEvidence, IsJudgedBy}
use Rattle.wal_extract.specs.Contrary.{AreDigestedForEvidence}
use Rattle.wal_reader.specs.declared.outcome.ReadAnswer.{ReadAnswer}
use Rattle.wal_reader.specs.Outcome.{IsAnswer, IsVerdict}
use Rattle.wal_gateway.specs.declared.answer.GetAnswer.{GetAnswer}
use Rattle.wal_gateway.specs.declared.checked.CheckedBlob.{CheckedBlob}
use Rattle.wal_gateway.specs.Getting.{Cache, Get, found_of, kept_blob}

-- the bytes are as many as the shape says, and the identifier is theirs, in the format and for the
-- faults of the shape
pub record IsChecked (digest : List ℕ → List ℕ) (id : BlobId) (blob : CheckedBlob) : Type 0 where
  pub long : length blob.bytes ≡ blob.shape.length
  pub identifier : IsIdentifierOf digest blob.shape.format blob.shape.f blob.bytes id.0

-- each blob of the list has its identifier
abbrev pub AreChecked : (List ℕ → List ℕ) → List (BlobId × CheckedBlob) → Type 0
AreChecked digest pairs =
    (pair : BlobId × CheckedBlob) → Contains pairs pair → IsChecked digest pair.0 pair.1

-- besides, no identifier is there twice, and the list is at most as long as it may be
pub record IsSoundCache (digest : List ℕ → List ℕ) (cache : Cache) : Type 0 where
  pub checked : AreChecked digest cache.pairs
  pub distinct : IsDistinct id_eq (keys_of cache.pairs)
  pub some : 1 ≤ cache.capacity
  pub short : length cache.pairs ≤ cache.capacity

-- evidence for an identifier in the list that does not lead to the bytes of the blob there
pub record ContradictsKept (digest : List ℕ → List ℕ)
    (cache : Cache) (id : BlobId) (shown : Evidence) : Type 0 where
  pub blob : CheckedBlob
  pub kept : kept_blob cache id ≡ Some blob
  pub evidence : IsEvidence digest id.0 shown
  pub other : IsJudgedBy digest shown.metadata shown.basis (Bytes blob.bytes) → ⊥

-- left and right are the texts that the blob in the list under this identifier and the evidence
-- lead to
abbrev pub AreDigestedForKept : (List ℕ → List ℕ) → Cache → BlobId → Evidence → List ℕ → List ℕ
    → Type 0
AreDigestedForKept digest cache id shown left right =
    (blob : CheckedBlob) × (kept_blob cache id ≡ Some blob)
    × AreDigestedForEvidence digest blob.shape blob.bytes shown left right

-- what is found is what a read of the payloads alone finds, if that is a verdict; or the read's
-- evidence contradicts the blob in the list
abbrev pub IsFreshOrContrary : (List ℕ → List ℕ) → Cache → Get → GetAnswer → Type 0
IsFreshOrContrary digest cache get answer =
    (fresh : ReadAnswer) → IsAnswer digest get.id.0 get.payloads fresh → IsVerdict fresh.outcome →
    (answer.found ≡ found_of get.from get.size fresh.outcome)
    ⊎ ((shown : Evidence) × (fresh.evidence ≡ Some shown)
    × ContradictsKept digest cache get.id shown)
