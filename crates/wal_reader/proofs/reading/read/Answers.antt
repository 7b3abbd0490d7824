use Rattle.wal_reader.proofs.Common.{List, ℕ, Result, Ok, Err, IfOk, BlobMetadata, HasEnough, HasEvidence, IsAnswer, IsVerdict, IsMetadataIn, IsOnlyOutcome, IsOutcome, ReadAnswer}
use Rattle.wal_reader.proofs.Enough.{enough}
use Rattle.wal_reader.proofs.reading.read.Goals as goal

-- what an answer is, of a result
parts : {E : Type 0} (digest : List ℕ → List ℕ) (id : List ℕ) (payloads : List (List ℕ)) (r : Result ReadAnswer E)
    → IfOk r (IsAnswer digest id payloads)
    → IfOk r (λ a. IsOutcome digest id payloads a.outcome) × IfOk r (λ a. IsOnlyOutcome digest id payloads a.outcome)
    × IfOk r (λ a. HasEvidence digest id payloads a.outcome a.evidence)
    × IfOk r (λ a. (m : BlobMetadata) → IsMetadataIn digest id payloads m → HasEnough digest id m payloads
    → IsVerdict a.outcome)
parts digest id payloads (Ok a) is = (is.0, is.1, is.2, λ m one has. enough digest id payloads m a.outcome is.0 one has)
parts digest id payloads (Err e) is = (tt, tt, tt, tt)

pub returns : goal.returns
returns g c =
    let all = parts g.H.Hash32.digest c.args.id.now.0 c.args.payloads.now c.answer.result c.answer.ensures in
    record { outcome = all.0; only = all.1; evidence = all.2; enough = all.3 }
