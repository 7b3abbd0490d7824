use Rattle.std.specs.Prelude.{◌≡◌, ℕ, ◌+◌, ◌<◌, ◌≤◌, Bool, true, Option, Some, None, filter}
use Rattle.std.specs.Prelude.{slice_get}
use Rattle.std.specs.Ordering.{is_lt}
use Rattle.std.specs.List.{remove}
use Rattle.std.specs.FinMap as map
use Rattle.wal_shape.specs.declared.BlobId.{BlobId}
use Rattle.wal_shape.specs.Identifiers.{id_cmp}
use Rattle.wal_store.specs.Contents.{Contents}

-- when an identifier goes, its place is closed
abbrev pub ClosesPlace : Type 0
ClosesPlace =
    (contents : Contents) (id : BlobId) (place : ℕ) → slice_get (map.keys contents) place ≡ Some id
    → map.keys (map.remove contents id) ≡ remove (map.keys contents) place

-- the identifiers below its place stay where they are
abbrev pub KeepsBelow : Type 0
KeepsBelow =
    (contents : Contents) (id : BlobId) (place below : ℕ)
    → slice_get (map.keys contents) place ≡ Some id → below < place
    → slice_get (map.keys (map.remove contents id)) below ≡ slice_get (map.keys contents) below

-- and those above it move down by one place
abbrev pub MovesDown : Type 0
MovesDown =
    (contents : Contents) (id : BlobId) (place above : ℕ)
    → slice_get (map.keys contents) place ≡ Some id → place ≤ above
    → slice_get (map.keys (map.remove contents id)) above
    ≡ slice_get (map.keys contents) (above + 1)

-- whether an identifier stands past another one; if there is no other, each does
abbrev pub is_past : Option BlobId → BlobId → Bool
is_past None id = true
is_past (Some last) id = is_lt (id_cmp last id)

-- the first identifier past this one
abbrev pub next_id : Contents → Option BlobId → Option BlobId
next_id contents last = slice_get (filter (is_past last) (map.keys contents)) 0
