-- What serves private functions and proofs beside Checking.
use Rattle.std.specs.Prelude.{ℕ}
use Rattle.wal_evidence.specs.declared.proof.ProofVerdict.{ProofVerdict}
use Rattle.wal_evidence.specs.declared.proof.ProofVerdict.TheVariants.{WrongCount, Repeated}
use Rattle.wal_evidence.specs.declared.proof.ProofVerdict.TheVariants.{BadOpening, Consistent}
use Rattle.wal_evidence.specs.declared.proof.ProofVerdict.TheVariants.{Inconsistent}

abbrev pub verdict_status : ProofVerdict → ℕ
verdict_status WrongCount = 4
verdict_status Repeated = 4
verdict_status (BadOpening place) = 4
verdict_status Consistent = 4
verdict_status Inconsistent = 3
