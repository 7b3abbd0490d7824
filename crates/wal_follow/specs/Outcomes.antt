-- What comes of an entry, by what the rules answer.
use Rattle.wal_ledger.specs.declared.entry.Kind.{Kind}
use Rattle.wal_ledger.specs.declared.entry.Kind.TheVariants.{Holds, Denies}
use Rattle.wal_ledger.specs.declared.answers.RegisterAnswer.{RegisterAnswer}
use Rattle.wal_ledger.specs.declared.answers.RegisterAnswer.TheVariants as registering
use Rattle.wal_ledger.specs.declared.answers.ReadyAnswer.{ReadyAnswer}
use Rattle.wal_ledger.specs.declared.answers.ReadyAnswer.TheVariants as readying
use Rattle.wal_record.specs.declared.outcome.Said.{Said}
use Rattle.wal_record.specs.declared.outcome.Said.TheVariants as saying
use Rattle.wal_follow.specs.declared.outcome.Outcome.{Outcome}
use Rattle.wal_follow.specs.declared.outcome.Outcome.TheVariants as coming

-- of a registration; where there is room, NoRoom is not answered
abbrev pub registered : RegisterAnswer → Outcome
registered (registering.Registered until) = coming.Until until
registered registering.MovingExtension = coming.RefusedMoving
registered registering.Past = coming.RefusedPast
registered registering.NoRoom = coming.RefusedPast

-- of a claim
abbrev pub claimed : Kind → Said → Outcome
claimed kind (saying.Counted count) = coming.Counted count
claimed Holds (saying.Quorum count) = coming.Certified count
claimed Denies (saying.Quorum count) = coming.Invalid count
claimed kind saying.Already = coming.Already
claimed kind saying.Unregistered = coming.Unregistered
claimed kind saying.Expires = coming.Expires

-- of a shard of the next committee that is ready; where there is room, NoRoom is not answered
abbrev pub readied : ReadyAnswer → Outcome
readied (readying.Counted count) = coming.Counted count
readied readying.Already = coming.Already
readied readying.NoRoom = coming.Already
