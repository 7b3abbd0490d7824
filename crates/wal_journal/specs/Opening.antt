-- How the opening of a disk ends.
use Rattle.std.specs.Prelude.{ℕ, Bool, List, Option, Result, Ok, Err}
use Rattle.wal_store.specs.Contents.{Contents}
use Rattle.wal_journal.specs.declared.journal.Journal.{Journal}
use Rattle.wal_journal.specs.declared.open.OpenRefusal.{OpenRefusal}
use Rattle.wal_journal.specs.Reading.{Opens}

-- the disk after the opening, however it ended
abbrev pub opened_disk : {D K : Type 0} {disk_ghosts : _} {keep_ghosts : _}
    → Result (Journal D K disk_ghosts keep_ghosts) (OpenRefusal D K)
    → D
opened_disk (Ok journal) = journal.disk
opened_disk (Err refusal) = refusal.disk

-- the keep that an opening hands back, in the journal or beside the refusal
abbrev pub opened_keep : {D K : Type 0} {disk_ghosts : _} {keep_ghosts : _}
    → Result (Journal D K disk_ghosts keep_ghosts) (OpenRefusal D K)
    → K
opened_keep (Ok journal) = journal.keep
opened_keep (Err refusal) = refusal.keep

-- what was read from these bytes, and why the reading ended
abbrev pub IsOpening : {D K : Type 0} {disk_ghosts : _} {keep_ghosts : _} → Option ℕ → Bool
    → (K → Contents) → List ℕ
    → Result (Journal D K disk_ghosts keep_ghosts) (OpenRefusal D K) → Type 0
IsOpening limit may_want contents bytes (Ok journal) =
    Opens limit may_want bytes (contents journal.keep) (Ok journal.tail)
IsOpening limit may_want contents bytes (Err refusal) =
    Opens limit may_want bytes (contents refusal.keep) (Err refusal.why)
