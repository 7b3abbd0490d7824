-- What payloads put into a journal.
use Rattle.std.specs.Prelude.{◌≡◌, ℕ, ◌+◌, ◌<◌, Bool, true, List, [], ◌∷◌, ◌++◌, length, Option}
use Rattle.std.specs.Prelude.{Some, None, Result, Ok, Err, ◌&&◌, if◌then◌else◌}
use Rattle.std.specs.Option.{option_map}
use Rattle.wal_shape.specs.declared.BlobId.{BlobId}
use Rattle.wal_shape.specs.declared.part.Part.{Part}
use Rattle.wal_commit.specs.Identifier.{identifier_of}
use Rattle.wal_frame.specs.declared.frame.FrameError.{FrameError}
use Rattle.wal_frame.specs.Frame.{Frame, Metadata, Sliver, Proof}
use Rattle.wal_frame.specs.Stored.{stored_part, stored_bytes}
use Rattle.wal_frame.specs.Reading.{read_of}
use Rattle.wal_store.specs.Parts.{is_absent, is_fit}
use Rattle.wal_store.specs.Contents.{Contents, part_at}
use Rattle.wal_port.specs.Faults.{Rose}
use Rattle.wal_store.specs.Calls.{Call, Put, DropPart, DropId, after_call, after_calls}
use Rattle.wal_journal.specs.declared.journal.Journal.{Journal}
use Rattle.wal_journal.specs.declared.journal.ChangeRefusal.{ChangeRefusal}
use Rattle.wal_journal.specs.declared.journal.ChangeRefusal.TheVariants.{Kept, Stopped}
use Rattle.wal_journal.specs.declared.journal.Why.{Why}
use Rattle.wal_journal.specs.Disk.{Agrees}
use Rattle.wal_journal.specs.Crash.{Holds}
use Rattle.wal_journal.specs.Record.{records, Accepts, EitherWay}
use Rattle.wal_journal.specs.Reading.{HadRoomForPuts}
use Rattle.wal_journal.specs.Journal.{IsPutWhy, span, Takes}

-- the identifier under which a frame's part is put: the one that commits the metadata, or the one
-- that the frame names
abbrev pub carried_id : (List ℕ → List ℕ) → Frame → BlobId
carried_id digest (Metadata metadata) = record { 0 = identifier_of digest metadata }
carried_id digest (Sliver id axis index bytes) = record { 0 = id }
carried_id digest (Proof id proof) = record { 0 = id }
carried_id digest _ = record { 0 = [] }

-- the put of the part that a frame carries, if it carries one
abbrev pub put_of : (List ℕ → List ℕ) → Frame → Option Call
put_of digest frame =
    option_map (λ part. Put (carried_id digest frame) part (stored_bytes frame)) (stored_part frame)

-- the same for a payload, which may be no frame
abbrev pub put_in : (List ℕ → List ℕ) → Result Frame FrameError → Option Call
put_in digest (Ok frame) = put_of digest frame
put_in digest (Err fault) = None

-- whether a change is lawful: a part that is put is not held, and has from 1 byte to as many as a
-- blob may have
abbrev pub is_lawful : Contents → Call → Bool
is_lawful held (Put id part bytes) = is_absent (part_at held id part) && is_fit (Some bytes)
is_lawful held (DropPart id part) = true
is_lawful held (DropId id) = true

-- a change, unless there is none or it is not lawful, and those that follow, by what is held then
abbrev pub and_more : Contents → Option Call → (Contents → List Call) → List Call
and_more held None others = others held
and_more held (Some call) others =
    if is_lawful held call then call ∷ others (after_call held call) else others held

-- THE PUTS OF PAYLOADS, in order: of each part that a payload carries, unless such a part is
-- already held, or no keep takes its bytes
abbrev pub puts_of : (List ℕ → List ℕ) → Contents → List (List ℕ) → List Call
puts_of digest held [] = []
puts_of digest held (payload ∷ payloads) =
    and_more held (put_in digest (read_of payload)) (λ now. puts_of digest now payloads)

-- an image accepts a prefix of the puts behind these changes, and a keep of this limit with these
-- contents had room for it
abbrev pub AcceptsFront : Option ℕ → Contents → List Call → List Call → List ℕ → Type 0
AcceptsFront limit held changes puts image =
    (first : List Call) × (rest : List Call) × (puts ≡ first ++ rest)
    × HadRoomForPuts limit held first × Accepts image (changes ++ first)

-- the puts before the first one that is refused were made, and that one is refused for this reason
pub record Refuses {D K : Type 0} {disk_ghosts : _} {keep_ghosts : _} (now : D → List ℕ)
    (contents : K → Contents) (most : K → Option ℕ)
    (may_want : Bool) (old : Journal D K disk_ghosts keep_ghosts)
    (puts : List Call) (new : Journal D K disk_ghosts keep_ghosts) (why : Why) : Type 0 where
  pub first : List Call
  pub id : BlobId
  pub part : Part
  pub bytes : List ℕ
  pub rest : List Call
  pub are : puts ≡ first ++ Put id part bytes ∷ rest
  pub long : length id.0 ≡ 32
  pub takes : Takes now contents most old first new
  pub refused : IsPutWhy (length (now new.disk)) new.tail
      (most new.keep) may_want (contents new.keep) id bytes why

-- The disk failed during one of the puts: those before it are made, and if the disk tells what a
-- crash leaves, each crash from now on leaves an image that goes on after them; the one fits on the
-- disk, the keep had room for it and holds it, and it may be made or not. Only bytes of their
-- records and of the gate behind them may have changed.
pub record StopsIn {D K : Type 0} {disk_ghosts : _}
    {keep_ghosts : _} (now : D → List ℕ) (faults : D → ℕ)
    (tells : Bool) (clock : D → ℕ) (since : D → ℕ → List ℕ → Type 0)
    (contents : K → Contents) (most : K → Option ℕ) (old : Journal D K disk_ghosts keep_ghosts)
    (puts : List Call) (disk : D) (keep : K) : Type 0 where
  pub first : List Call
  pub change : Call
  pub rest : List Call
  pub are : puts ≡ first ++ change ∷ rest
  pub fits : old.tail + length (records (first ++ change ∷ [])) < length (now old.disk)
  pub room : HadRoomForPuts (most old.keep) (contents old.keep) (first ++ change ∷ [])
  pub rose : Rose (faults old.disk) (faults disk)
  pub only : Agrees ((old.tail, span (first ++ change ∷ [])) ∷ []) (now old.disk) (now disk)
  pub leaves : (changes : List Call) → Accepts (now old.disk) changes
      → EitherWay (changes ++ first) change (now disk)
  pub acknowledged : tells ≡ true → (changes : List Call) → Accepts (now old.disk) changes
      → Holds clock since disk (changes ++ first)
  pub holds : contents keep ≡ after_calls (contents old.keep) (first ++ change ∷ [])
  pub limit : most keep ≡ most old.keep

-- How packing ends: all puts are made; or those before the first that is refused; or the disk
-- failed during one of them.
abbrev pub Packs : {D K : Type 0} {disk_ghosts : _} {keep_ghosts : _} → (D → List ℕ) → (D → ℕ)
    → Bool → (D → ℕ)
    → (D → ℕ → List ℕ → Type 0) → (K → Contents) → (K → Option ℕ) → Bool
    → Journal D K disk_ghosts keep_ghosts
    → List Call
    → Result (Journal D K disk_ghosts keep_ghosts) (ChangeRefusal D K disk_ghosts keep_ghosts)
    → Type 0
Packs now faults tells clock since contents limit may_want old puts (Ok journal) =
    Takes now contents limit old puts journal
Packs now faults tells clock since contents limit may_want old puts (Err (Kept journal why)) =
    Refuses now contents limit may_want old puts journal why
Packs now faults tells clock since contents limit may_want old puts (Err (Stopped disk keep)) =
    StopsIn now faults tells clock since contents limit old puts disk keep
