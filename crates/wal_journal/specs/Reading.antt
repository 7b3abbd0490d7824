-- What is read from a disk when it is opened.
use Rattle.std.specs.Prelude.{◌≡◌, ◌≢◌, ℕ, ◌+◌, ◌<◌, ⊤, Bool, List, [], ◌∷◌, ◌++◌, length, drop}
use Rattle.std.specs.Prelude.{get_or, Option, Result, Ok, Err}
use Rattle.wal_shape.specs.declared.BlobId.{BlobId}
use Rattle.wal_shape.specs.declared.part.Part.{Part}
use Rattle.wal_store.specs.declared.contract.KeepError.TheVariants as keeps
use Rattle.wal_store.specs.Contents.{Contents, free_of, needed_for}
use Rattle.wal_store.specs.Answer.{HasRoom, IsPutAnswer}
use Rattle.wal_store.specs.Calls.{Call, Put, DropPart, DropId, no_contents, after_call, after_calls}
use Rattle.wal_store.specs.Calls.{IsLawfulCall, AreLawful}
use Rattle.wal_journal.specs.declared.open.OpenFault.{OpenFault}
use Rattle.wal_journal.specs.declared.open.OpenFault.TheVariants.{DiskFault, BadRecord, Full}
use Rattle.wal_journal.specs.declared.open.OpenFault.TheVariants.{Memory}
use Rattle.wal_journal.specs.Record.{spelling, IsWholeRecord, AreWholeRecords, records}

-- the records of these lawful changes end at a place, and the contents are what they make
pub record ReadTo (now : List ℕ) (tail : ℕ)
    (contents : Contents) (changes : List Call) : Type 0 where
  pub whole : AreWholeRecords changes
  pub lawful : AreLawful no_contents changes
  pub is : now ≡ records changes ++ drop tail now
  pub at : length (records changes) ≡ tail
  pub within : tail < length now
  pub holds : contents ≡ after_calls no_contents changes

-- no lawful change, with a byte behind it, is spelled here
abbrev pub IsBad : Contents → List ℕ → Type 0
IsBad contents bytes =
    (call : Call) (next : ℕ) (more : List ℕ) → IsWholeRecord call → IsLawfulCall contents call
    → bytes ≡ spelling call ++ next ∷ more → ⊥

-- a lawful put that the keep has no room for, whose record begins here, with a byte behind it
pub record IsFull (limit : Option ℕ) (may_want : Bool)
    (contents : Contents) (bytes : List ℕ) (needed free : ℕ) : Type 0 where
  pub id : BlobId
  pub part : Part
  pub put : List ℕ
  pub whole : IsWholeRecord (Put id part put)
  pub lawful : IsLawfulCall contents (Put id part put)
  pub next : ℕ
  pub more : List ℕ
  pub is : bytes ≡ spelling (Put id part put) ++ next ∷ more
  pub answer : IsPutAnswer limit may_want contents id put (Err (keeps.Full needed free))

-- the keep had room for each of the puts
abbrev pub HadRoomForPuts : Option ℕ → Contents → List Call → Type 0
HadRoomForPuts limit held [] = ⊤
HadRoomForPuts limit held (Put id part bytes ∷ changes) =
    HasRoom (free_of limit held) (needed_for held id bytes)
    × HadRoomForPuts limit (after_call held (Put id part bytes)) changes
HadRoomForPuts limit held (DropPart id part ∷ changes) =
    HadRoomForPuts limit (after_call held (DropPart id part)) changes
HadRoomForPuts limit held (DropId id ∷ changes) =
    HadRoomForPuts limit (after_call held (DropId id)) changes

-- room for changes, and then for more, is room for all of them
abbrev pub RoomInParts : Type 0
RoomInParts =
    (limit : Option ℕ) (held : Contents) (changes more : List Call)
    → HadRoomForPuts limit held changes → HadRoomForPuts limit (after_calls held changes) more
    → HadRoomForPuts limit held (changes ++ more)

-- how the reading ends, with what was read before: at a closed gate, or at the first record that is
-- bad or finds no room; or anywhere, if the disk failed or memory ran out
abbrev pub Opens : Option ℕ → Bool → List ℕ → Contents → Result ℕ OpenFault → Type 0
Opens limit may_want now contents (Ok tail) =
    (changes : List Call) × ReadTo now tail contents changes × (get_or now tail 0 ≢ 1)
    × HadRoomForPuts limit no_contents changes
Opens limit may_want now contents (Err DiskFault) =
    (changes : List Call) × (tail : ℕ) × ReadTo now tail contents changes
    × HadRoomForPuts limit no_contents changes
Opens limit may_want now contents (Err (BadRecord at)) =
    (changes : List Call) × ReadTo now at contents changes × (get_or now at 0 ≡ 1)
    × IsBad contents (drop (at + 1) now) × HadRoomForPuts limit no_contents changes
Opens limit may_want now contents (Err (Full needed free)) =
    (changes : List Call) × (tail : ℕ) × ReadTo now tail contents changes × (get_or now tail 0 ≡ 1)
    × IsFull limit may_want contents (drop (tail + 1) now) needed free
    × HadRoomForPuts limit no_contents changes
Opens limit may_want now contents (Err Memory) =
    (changes : List Call) × (tail : ℕ) × ReadTo now tail contents changes
    × HadRoomForPuts limit no_contents changes

-- a sync was made: nothing is pending, and the clock is later
abbrev pub HasSynced : {D : Type 0} → (D → List (ℕ × ℕ)) → (D → ℕ) → D → D → Type 0
HasSynced pending clock old new = (pending new ≡ []) × (clock old < clock new)

-- unless the disk failed, a sync was made before anything was read
abbrev pub IsSynced : {D : Type 0} → (D → List (ℕ × ℕ)) → (D → ℕ) → D → D → OpenFault → Type 0
IsSynced pending clock old new DiskFault = ⊤
IsSynced pending clock old new why = HasSynced pending clock old new
