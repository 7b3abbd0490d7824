-- The command that writes an image of the parts that envelopes carry.
use Rattle.std.specs.Prelude.{◌≡◌, ℕ, ◌+◌, ◌-◌, List, [], ◌∷◌, ◌++◌, length, codes, decimal, Result}
use Rattle.std.specs.Prelude.{Ok, Err, nat_lt, if◌then◌else◌}
use Rattle.wal_store.specs.Calls.{Call, no_contents}
use Rattle.wal_journal.specs.Record.{spelling, records}
use Rattle.wal_journal.specs.Packing.{puts_of}
use Rattle.wal_run.specs.Command.{Command, bare, envelopes}
use Rattle.wal_run.specs.Lines.{number_text}

-- the bytes that the record of a change and the gate behind it need; the gate before it is there
-- already
abbrev pub room_of : Call → ℕ
room_of call = 1 + length (spelling call)

-- the bytes of a disk behind the closed gate, when the records of these changes stand on it
abbrev pub room_behind : ℕ → List Call → ℕ
room_behind size changes = size - length (records changes) - 1

-- changes are recorded behind others, with a closed gate at their end; or what the first that does
-- not fit needs, and what is free
abbrev pub image_from : ℕ → List Call → List Call → Result (List ℕ) (ℕ × ℕ)
image_from size first [] = Ok (records first ++ 0 ∷ [])
image_from size first (call ∷ rest) =
    if nat_lt (room_behind size first) (room_of call)
    then Err (room_of call, room_behind size first)
    else image_from size (first ++ call ∷ []) rest

-- THE IMAGE of changes on a disk of so many bytes, up to and including the closed gate
abbrev pub image_of : ℕ → List Call → Result (List ℕ) (ℕ × ℕ)
image_of size changes = image_from size [] changes

-- the bytes that a record needs, and those that are free on the disk
abbrev pub disk_full_text : ℕ → ℕ → List ℕ
disk_full_text needed free =
    codes "disk full needed " ++ decimal needed ++ number_text (codes " free ") free

-- the puts of the payloads, starting from no contents
abbrev pub imaging : (List ℕ → List ℕ) → ℕ → Command
imaging digest size = record (bare 134217728 envelopes) {
  Succeeds = λ payloads text. image_of size (puts_of digest no_contents payloads) ≡ Ok text;
  Lacks = λ payloads text. (needed : ℕ) × (free : ℕ)
      × (image_of size (puts_of digest no_contents payloads) ≡ Err (needed, free))
      × (text ≡ disk_full_text needed free);
}
