-- What serves private functions and proofs beside Reading.
use Rattle.std.specs.Prelude.{◌≡◌, ◌≢◌, ℕ, ◌+◌, ◌<◌, ◌≤◌, ⊤, Bool, List, [], ◌∷◌, ◌++◌, length}
use Rattle.std.specs.Prelude.{drop, get_or, Option, Some, None, Result, Ok, Err}
use Rattle.wal_shape.specs.Shape.{most_bytes}
use Rattle.wal_store.specs.Contents.{Contents}
use Rattle.wal_store.specs.Calls.{Call, after_call, IsLawfulCall}
use Rattle.wal_journal.specs.declared.open.OpenFault.{OpenFault}
use Rattle.wal_journal.specs.declared.open.OpenFault.TheVariants.{DiskFault, BadRecord, Full}
use Rattle.wal_journal.specs.declared.open.OpenFault.TheVariants.{Memory}
use Rattle.wal_journal.specs.declared.record.Head.{Head}
use Rattle.wal_journal.specs.declared.record.Change.{Change}
use Rattle.wal_journal.specs.declared.record.Change.TheVariants as read
use Rattle.wal_journal.specs.Record.{fields, part_byte, size_text, spelling, IsWholeRecord}
use Rattle.wal_journal.specs.Disk.{Agrees}
use Rattle.wal_journal.specs.Crash.{LeavesOnly}
use Rattle.wal_journal.specs.Reading.{IsBad, IsFull, HadRoomForPuts}

-- the first 38 bytes behind a gate
abbrev pub head_text : Head → List ℕ
head_text head = head.kind ∷ (head.id.0 ++ (head.part ∷ size_text head.size))

-- the change has this head
pub record HasHead (head : Head) (call : Call) : Type 0 where
  pub kind : head.kind ≡ (fields call).kind
  pub id : head.id.0 ≡ (fields call).id
  pub part : head.part ≡ (fields call).part
  pub size : head.size ≡ length (fields call).bytes

-- the head is of this kind of change
abbrev pub IsHead : Head → Change → Type 0
IsHead head (read.Put id part size) =
    (head.kind ≡ 1) × (head.id ≡ id) × (head.part ≡ part_byte part) × (head.size ≡ size)
    × (1 ≤ size)
    × (size ≤ most_bytes)
IsHead head (read.DropPart id part) =
    (head.kind ≡ 2) × (head.id ≡ id) × (head.part ≡ part_byte part) × (head.size ≡ 0)
IsHead head (read.DropId id) = (head.kind ≡ 3) × (head.id ≡ id) × (head.part ≡ 0) × (head.size ≡ 0)

-- a record is carried out
pub record IsNext (now : List ℕ) (tail next : ℕ) (old new : Contents) : Type 0 where
  pub change : Call
  pub whole : IsWholeRecord change
  pub lawful : IsLawfulCall old change
  pub is : drop tail now ≡ 1 ∷ (spelling change ++ drop next now)
  pub at : next ≡ tail + 1 + length (spelling change)
  pub within : next < length now
  pub makes : new ≡ after_call old change

-- a call to the disk failed, or there was no memory
abbrev pub IsReadFault : OpenFault → Type 0
IsReadFault DiskFault = ⊤
IsReadFault (BadRecord at) = ⊥
IsReadFault (Full needed free) = ⊥
IsReadFault Memory = ⊤

-- one step of the reading
abbrev pub Steps : Option ℕ → Bool → List ℕ → ℕ → Contents → Contents → Result (Option ℕ) OpenFault
    → Type 0
Steps limit may_want now tail old new (Ok (Some next)) =
    (n : IsNext now tail next old new) × HadRoomForPuts limit old (n.change ∷ [])
Steps limit may_want now tail old new (Ok None) = (get_or now tail 0 ≢ 1) × (new ≡ old)
Steps limit may_want now tail old new (Err DiskFault) = new ≡ old
Steps limit may_want now tail old new (Err (BadRecord at)) =
    (at ≡ tail) × (get_or now tail 0 ≡ 1) × IsBad old (drop (tail + 1) now) × (new ≡ old)
Steps limit may_want now tail old new (Err (Full needed free)) =
    (get_or now tail 0 ≡ 1) × IsFull limit may_want old (drop (tail + 1) now) needed free
    × (new ≡ old)
Steps limit may_want now tail old new (Err Memory) = new ≡ old

-- nothing more is pending, and a crash leaves what it might have left before
pub record Still {D : Type 0} (now : D → List ℕ) (pending : D → List (ℕ × ℕ))
    (clock : D → ℕ) (since : D → ℕ → List ℕ → Type 0) (old new : D) : Type 0 where
  pub same : pending new ≡ pending old
  pub run : LeavesOnly clock since old new (Agrees (pending old) (now old))
