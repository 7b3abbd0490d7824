-- What serves private functions and proofs beside Verifying.
use Rattle.std.specs.Prelude.{ℕ}
use Rattle.wal_challenge.specs.declared.checking.AnswerVerdict.{AnswerVerdict}
use Rattle.wal_challenge.specs.declared.checking.AnswerVerdict.TheVariants.{Accepted, Wrong}
use Rattle.wal_challenge.specs.declared.checking.AnswerVerdict.TheVariants.{WrongCount}

abbrev pub verdict_status : AnswerVerdict → ℕ
verdict_status (WrongCount k) = 4
verdict_status (Wrong draw) = 3
verdict_status Accepted = 0
