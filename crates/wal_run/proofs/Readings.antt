-- What payloads come to is one result of the command that reads.
use Rattle.wal_run.proofs.Common.{◌≡◌, inl, inr, ⊎_elim, ℕ, List, [], codes, refl, ap, arith, BlobId, row_count, IsStream, IsMetadataIn, IsOutcome, SameOutcome, Outcome, only_outcome, reject_evidence, IsResult, Recorded, collision, lacking, rejection, success, Told, lacks, recorded, rejects, succeeds, short_text, outcome_status, outcome_text}
use Rattle.wal_reader.specs.declared.outcome.Outcome.TheVariants.{Bytes, Reject, Short, NoMetadata, Collision}
use Rattle.wal_run.specs.Reading.{reading}
use Rattle.wal_run.proofs.CommandLaws.{Determined, Same, ToldBy, both_collide, one_by, same, told_so}

-- an outcome is the result
outcome_is : (digest : List ℕ → List ℕ) (id : BlobId) (input : List ℕ) (payloads : List (List ℕ)) → IsStream payloads input → (o : Outcome)
    → IsOutcome digest id.0 payloads o → IsResult digest (reading digest id) input (outcome_status o) (outcome_text o)
outcome_is digest id input payloads is (Bytes bytes) comes = success bytes (recorded payloads comes.0, (is, comes.1), comes)
outcome_is digest id input payloads is Reject comes =
    let e = reject_evidence digest id.0 payloads comes in
    ⊎_elim
    (λ decides. rejection (codes "reject\n") (recorded payloads decides.0, (is, decides.1), (e.0, comes, e.1, refl)))
    (λ refutes. rejection (codes "reject\n") (recorded payloads refutes.0, (is, refutes.1), (e.0, comes, e.1, refl))) comes
outcome_is digest id input payloads is (Short have need) comes =
    lacking (short_text have need)
    (inr (recorded payloads comes.0, (is, comes.1), (have, comes.2, comes.4, ap (λ (k : ℕ). short_text have k) comes.3)))
outcome_is digest id input payloads is NoMetadata comes = lacking (codes "no metadata\n") (inl (payloads, is, comes, refl))
outcome_is digest id input payloads is (Collision clash) comes =
    collision clash.left clash.right _ comes.3
    (record { front = []; clashes = inl ((payloads, is, comes.0, comes.1, comes.2, comes.4), refl); whole = refl })

-- the status and the text of an outcome are a result of `read`
pub outcome_as : (digest : List ℕ → List ℕ) (id : BlobId) (input : List ℕ) (payloads : List (List ℕ)) (s : ℕ) (text : List ℕ) → IsStream payloads input → (o : Outcome)
    → IsOutcome digest id.0 payloads o → s ≡ outcome_status o → text ≡ outcome_text o → IsResult digest (reading digest id) input s text
outcome_as digest id input payloads s text is o comes status line = rw (status, line) (outcome_is digest id input payloads is o comes)

-- a result is that of an outcome
outcome_of : (digest : List ℕ → List ℕ) (id : BlobId) (r : Recorded) → IsMetadataIn digest id.0 r.payloads r.metadata → (s : ℕ) (x : List ℕ)
    → Told digest (reading digest id) r s x → ToldBy (IsOutcome digest id.0 r.payloads) outcome_status outcome_text s x
outcome_of digest id r one _ _ (succeeds text is) = (Bytes text, is, refl, refl)
outcome_of digest id r one _ _ (rejects text is) = (Reject, is.1, refl, is.3)
outcome_of digest id r one _ _ (lacks text is) =
    (Short is.0 (row_count r.metadata.f), (r.metadata, one, is.1, refl, is.2), refl, is.3)
outcome_of digest id r one s x told = absurd (grind (arith, told_so digest (reading digest id) r s x told))

one_told : (o p : Outcome) → SameOutcome o p → Same (outcome_status o) (outcome_text o) (outcome_status p) (outcome_text p)
one_told (Collision a) (Collision b) is = both_collide _ _ _ _ [] a b refl refl refl refl
one_told o p is = same _ _ _ _ (ap outcome_status is) (ap outcome_text is)

pub read_once : (digest : List ℕ → List ℕ) (id : BlobId) → Determined digest (reading digest id)
read_once digest id input r spells s x t y a b =
    one_by (IsOutcome digest id.0 r.payloads) outcome_status outcome_text (λ o p is also. one_told o p (only_outcome digest id.0 r.payloads p also o is))
    (outcome_of digest id r spells.1 s x a) (outcome_of digest id r spells.1 t y b)
