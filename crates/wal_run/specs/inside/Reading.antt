-- What serves private functions and proofs beside Reading.
use Rattle.std.specs.Prelude.{ℕ, List, codes}
use Rattle.wal_reader.specs.declared.outcome.Outcome.{Outcome}
use Rattle.wal_reader.specs.declared.outcome.Outcome.TheVariants.{Bytes, Reject, Short, NoMetadata}
use Rattle.wal_reader.specs.declared.outcome.Outcome.TheVariants.{Collision}
use Rattle.wal_run.specs.Lines.{collision_text, short_text}

abbrev pub outcome_status : Outcome → ℕ
outcome_status (Bytes bytes) = 0
outcome_status Reject = 3
outcome_status (Short have need) = 4
outcome_status NoMetadata = 4
outcome_status (Collision clash) = 10

-- a blob as it is, all else in words
abbrev pub outcome_text : Outcome → List ℕ
outcome_text (Bytes bytes) = bytes
outcome_text Reject = codes "reject\n"
outcome_text (Short have need) = short_text have need
outcome_text NoMetadata = codes "no metadata\n"
outcome_text (Collision clash) = collision_text clash.left clash.right
