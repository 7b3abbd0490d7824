-- What serves private functions and proofs beside Opening.
use Rattle.wal_store.specs.declared.contract.KeepError.{KeepError}
use Rattle.wal_store.specs.declared.contract.KeepError.TheVariants as keeps
use Rattle.wal_journal.specs.declared.open.OpenFault.{OpenFault}
use Rattle.wal_journal.specs.declared.open.OpenFault.TheVariants.{Full, Memory}

-- the keep's error as a fault of the opening
abbrev pub fault_of : KeepError → OpenFault
fault_of (keeps.Full needed free) = Full needed free
fault_of keeps.Memory = Memory
