-- Why a journal refuses a change.
use Rattle.wal_store.specs.declared.contract.KeepError.{KeepError}
use Rattle.wal_store.specs.declared.contract.KeepError.TheVariants as keeps
use Rattle.wal_journal.specs.declared.journal.Why.{Why}
use Rattle.wal_journal.specs.declared.journal.Why.TheVariants.{Full, Memory}

-- the keep's error as a reason of the journal
abbrev pub why_of : KeepError → Why
why_of (keeps.Full needed free) = Full needed free
why_of keeps.Memory = Memory
