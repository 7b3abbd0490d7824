-- What contracts see of a journal, and how a change ends.
use Rattle.std.specs.Prelude.{◌≡◌, ◌⊎◌, ℕ, ◌+◌, ◌-◌, ◌<◌, ◌≤◌, Bool, ⊤, List, [], ◌∷◌, ◌++◌, length}
use Rattle.std.specs.Prelude.{get_or, Option, Result, Ok, Err}
use Rattle.wal_shape.specs.declared.BlobId.{BlobId}
use Rattle.wal_store.specs.declared.contract.KeepError.TheVariants as keeps
use Rattle.wal_store.specs.Contents.{Contents}
use Rattle.wal_store.specs.Answer.{IsPutAnswer}
use Rattle.wal_store.specs.Calls.{Call, after_calls}
use Rattle.wal_port.specs.Faults.{Rose}
use Rattle.wal_journal.specs.declared.journal.Journal.{Journal}
use Rattle.wal_journal.specs.declared.journal.ChangeRefusal.{ChangeRefusal}
use Rattle.wal_journal.specs.declared.journal.ChangeRefusal.TheVariants.{Kept, Stopped}
use Rattle.wal_journal.specs.declared.journal.Why.{Why}
use Rattle.wal_journal.specs.declared.journal.Why.TheVariants.{DiskFull, Full, Memory}
use Rattle.wal_journal.specs.Record.{records, Accepts}
use Rattle.wal_journal.specs.Disk.{Agrees}
use Rattle.wal_journal.specs.Reading.{HadRoomForPuts}

-- the disk of a journal
abbrev pub disk_of : {D K : Type 0} {disk_ghosts : _} {keep_ghosts : _}
    → Journal D K disk_ghosts keep_ghosts → D
disk_of journal = journal.disk

-- the keep of a journal, which holds what the changes on its disk make
abbrev pub keep_of : {D K : Type 0} {disk_ghosts : _} {keep_ghosts : _}
    → Journal D K disk_ghosts keep_ghosts → K
keep_of journal = journal.keep

-- where the closed gate stands
abbrev pub tail_of : {D K : Type 0} {disk_ghosts : _} {keep_ghosts : _}
    → Journal D K disk_ghosts keep_ghosts → ℕ
tail_of journal = journal.tail

-- the disk after a change, however it ended
abbrev pub disk_after : {D K : Type 0} {disk_ghosts : _} {keep_ghosts : _}
    → Result (Journal D K disk_ghosts keep_ghosts) (ChangeRefusal D K disk_ghosts keep_ghosts) → D
disk_after (Ok journal) = journal.disk
disk_after (Err (Kept journal why)) = journal.disk
disk_after (Err (Stopped disk keep)) = disk

-- a change was refused, since its record does not fit on the disk
abbrev pub IsDiskFull : {D K : Type 0} {disk_ghosts : _} {keep_ghosts : _}
    → Result (Journal D K disk_ghosts keep_ghosts) (ChangeRefusal D K disk_ghosts keep_ghosts)
    → Type 0
IsDiskFull (Ok journal) = ⊥
IsDiskFull (Err (Kept journal (DiskFull needed free))) = ⊤
IsDiskFull (Err (Kept journal other)) = ⊥
IsDiskFull (Err (Stopped disk keep)) = ⊥

-- a change was not refused: it was made, or the disk failed while it was being made
abbrev pub IsTried : {D K : Type 0} {disk_ghosts : _} {keep_ghosts : _}
    → Result (Journal D K disk_ghosts keep_ghosts) (ChangeRefusal D K disk_ghosts keep_ghosts)
    → Type 0
IsTried (Ok journal) = ⊤
IsTried (Err (Kept journal why)) = ⊥
IsTried (Err (Stopped disk keep)) = ⊤

-- a change in flight has not happened, or it has, and a keep of this limit with these contents had
-- room for it
abbrev pub FitsEitherWay : Option ℕ → Contents → List Call → Call → List ℕ → Type 0
FitsEitherWay limit held changes call image =
    Accepts image changes
    ⊎ (HadRoomForPuts limit held (call ∷ []) × Accepts image (changes ++ call ∷ []))

-- why a put is refused: it needs more bytes than are free on the disk; or, if enough are free, the
-- keep is full, or memory ran out
abbrev pub IsPutWhy : ℕ → ℕ → Option ℕ → Bool → Contents → BlobId → List ℕ → Why → Type 0
IsPutWhy len tail limit may_want contents id bytes (DiskFull needed free) =
    (needed ≡ 39 + length bytes) × (free ≡ len - tail - 1) × (free < needed)
IsPutWhy len tail limit may_want contents id bytes (Full needed free) =
    (39 + length bytes ≤ len - tail - 1)
    × IsPutAnswer limit may_want contents id bytes (Err (keeps.Full needed free))
IsPutWhy len tail limit may_want contents id bytes Memory = 39 + length bytes ≤ len - tail - 1

-- why a drop is refused
abbrev pub IsDropWhy : ℕ → ℕ → Why → Type 0
IsDropWhy len tail (DiskFull needed free) =
    (needed ≡ 39) × (free ≡ len - tail - 1) × (free < needed)
IsDropWhy len tail other = ⊥

-- the bytes that the records of changes take on a disk, with the gate behind them
abbrev pub span : List Call → ℕ
span [] = 0
span (call ∷ changes) = length (records (call ∷ changes)) + 1

-- More changes were made: they are accepted behind the others, the keep had room for them and holds
-- what they make, and a closed gate of value 0 stands behind the records that were written, and no
-- other byte was written.
pub record Takes {D K : Type 0} {disk_ghosts : _} {keep_ghosts : _} (now : D → List ℕ)
    (contents : K → Contents) (most : K → Option ℕ) (old : Journal D K disk_ghosts keep_ghosts)
    (more : List Call) (new : Journal D K disk_ghosts keep_ghosts) : Type 0 where
  pub accepts : (changes : List Call) → Accepts (now old.disk) changes
      → Accepts (now new.disk) (changes ++ more)
  pub room : HadRoomForPuts (most old.keep) (contents old.keep) more
  pub holds : contents new.keep ≡ after_calls (contents old.keep) more
  pub limit : most new.keep ≡ most old.keep
  pub tail : new.tail ≡ old.tail + length (records more)
  pub gate : (more ≡ [] → get_or (now old.disk) old.tail 0 ≡ 0)
      → get_or (now new.disk) new.tail 0 ≡ 0
  pub size : length (now new.disk) ≡ length (now old.disk)
  pub only : Agrees ((old.tail, span more) ∷ []) (now old.disk) (now new.disk)

-- The disk failed: only bytes of the records and of the gate behind them may have changed, the
-- bytes stand for what a crash may leave, and the keep already holds what the changes make.
pub record Stops {D K : Type 0} {disk_ghosts : _}
    {keep_ghosts : _} (now : D → List ℕ) (faults : D → ℕ)
    (contents : K → Contents) (most : K → Option ℕ)
    (old : Journal D K disk_ghosts keep_ghosts) (more : List Call)
    (Leaves : List Call → List ℕ → Type 0) (disk : D) (keep : K) : Type 0 where
  pub rose : Rose (faults old.disk) (faults disk)
  pub only : Agrees ((old.tail, span more) ∷ []) (now old.disk) (now disk)
  pub leaves : (changes : List Call) → Accepts (now old.disk) changes → Leaves changes (now disk)
  pub holds : contents keep ≡ after_calls (contents old.keep) more
  pub limit : most keep ≡ most old.keep

-- How a change ends: it is made; or the journal is as before, for the given reason; or the disk
-- failed.
abbrev pub EndsChange : {D K : Type 0} {disk_ghosts : _} {keep_ghosts : _} → (D → List ℕ) → (D → ℕ)
    → (K → Contents)
    → (K → Option ℕ) → (Why → Type 0) → Call → Journal D K disk_ghosts keep_ghosts
    → Result (Journal D K disk_ghosts keep_ghosts) (ChangeRefusal D K disk_ghosts keep_ghosts)
    → Type 0
EndsChange now faults contents limit is_why call old (Ok journal) =
    Takes now contents limit old (call ∷ []) journal
EndsChange now faults contents limit is_why call old (Err (Kept journal why)) =
    (journal.disk ≡ old.disk) × (journal.tail ≡ old.tail)
    × (contents journal.keep ≡ contents old.keep) × (limit journal.keep ≡ limit old.keep)
    × is_why why
EndsChange now faults contents limit is_why call old (Err (Stopped disk keep)) =
    Stops now faults contents limit old (call ∷ [])
    (λ changes. FitsEitherWay (limit old.keep) (contents old.keep) changes call) disk keep
