-- What serves private functions and proofs beside Outcome.
use Rattle.std.specs.Prelude.{◌≡◌, ℕ, List, Some}
use Rattle.wal_evidence.specs.Evidence.{IsJudgedBy}
use Rattle.wal_evidence.specs.declared.evidence.Evidence.{Evidence}
use Rattle.wal_evidence.specs.declared.evidence.Verdict.{Verdict}
use Rattle.wal_evidence.specs.declared.evidence.Verdict.TheVariants as told
use Rattle.wal_reader.specs.declared.outcome.ReadAnswer.{ReadAnswer}
use Rattle.wal_reader.specs.declared.outcome.Outcome.{Outcome}
use Rattle.wal_reader.specs.declared.outcome.Outcome.TheVariants.{Bytes, Reject}

-- the outcome that a verdict is
abbrev pub told_outcome : Verdict → Outcome
told_outcome (told.Bytes bytes) = Bytes bytes
told_outcome told.Reject = Reject

-- the answer that evidence leads to, by the one verdict on it
abbrev pub IsAnswerOf : (List ℕ → List ℕ) → Evidence → ReadAnswer → Type 0
IsAnswerOf digest evidence answer =
    (verdict : Verdict) × IsJudgedBy digest evidence.metadata evidence.basis verdict
    × ((other : Verdict) → IsJudgedBy digest evidence.metadata evidence.basis other
    → other ≡ verdict)
    × (answer.outcome ≡ told_outcome verdict) × (answer.evidence ≡ Some evidence)
