use Rattle.std.specs.Prelude.{◌≡◌, ℕ, ◌+◌, ◌<◌, ◌≤◌, Bool, true, false, ◌&&◌, List, [], ◌∷◌, Option}
use Rattle.std.specs.Prelude.{Some, None, length, take, map, slice_get, nat_eq, nat_lt, nat_le}
use Rattle.std.specs.declared.cmp.Ordering.TheVariants.{Less, Greater}
use Rattle.std.specs.Option.{option_map}
use Rattle.std.specs.List.{AllByRecursion}
use Rattle.std.specs.List.Sorted.{IsStrictlySortedBy}
use Rattle.wal_shape.specs.declared.BlobId.{BlobId}
use Rattle.wal_pool.specs.Pages.{page_bytes}
use Rattle.wal_shape.specs.declared.part.Part.{Part}
use Rattle.wal_shape.specs.declared.part.Part.TheVariants.{Metadata, Primary, Secondary, Proof}
use Rattle.wal_store.specs.declared.rows.Slot.{Slot}
use Rattle.wal_store.specs.declared.rows.Row.{Row}
use Rattle.wal_shape.specs.Shape.{most_bytes}
use Rattle.wal_shape.specs.Identifiers.{id_cmp}
use Rattle.wal_store.specs.Parts.{Parts, pages_for}
use Rattle.wal_store.specs.inside.Chain.{Linked, links, joined, uses, taken_at}
use Rattle.wal_store.specs.Entries.{Entries}

abbrev pub slot_of : Row → Part → Option Slot
slot_of row Metadata = row.metadata
slot_of row Primary = row.primary
slot_of row Secondary = row.secondary
slot_of row Proof = row.proof

abbrev pub with_slot : Row → Part → Option Slot → Row
with_slot row Metadata slot = record row { metadata = slot }
with_slot row Primary slot = record row { primary = slot }
with_slot row Secondary slot = record row { secondary = slot }
with_slot row Proof slot = record row { proof = slot }

abbrev pub no_slots : BlobId → ℕ → Row
no_slots id home =
    record { id = id; home = home; metadata = None; primary = None; secondary = None; proof = None }

-- the pages of a part
abbrev pub slot_links : List ℕ → Option Slot → List ℕ
slot_links next None = []
slot_links next (Some slot) = links next (pages_for slot.size) slot.first

-- how many pages a part has
abbrev pub slot_cost : Option Slot → ℕ
slot_cost None = 0
slot_cost (Some slot) = pages_for slot.size

-- the bytes of a part
abbrev pub content : Linked → Slot → List ℕ
content linked slot =
    take slot.size (joined linked.states (links linked.next (pages_for slot.size) slot.first))

abbrev pub part_in : Linked → Option Slot → Option (List ℕ)
part_in linked slot = option_map (content linked) slot

abbrev pub parts_of : Linked → Row → Parts
parts_of linked row = record {
  metadata = part_in linked row.metadata;
  primary = part_in linked row.primary;
  secondary = part_in linked row.secondary;
  proof = part_in linked row.proof;
}

abbrev pub ids_of : List Row → List BlobId
ids_of rows = map (λ row. row.id) rows

-- the holdings of a table of rows
abbrev pub entries_of : Linked → List Row → Entries
entries_of linked rows = map (λ row. (row.id, parts_of linked row)) rows

-- how often a row uses a page
abbrev pub row_uses : List ℕ → ℕ → Row → ℕ
row_uses next k row =
    uses k (row.home ∷ []) + uses k (slot_links next row.metadata)
    + uses k (slot_links next row.primary)
    + uses k (slot_links next row.secondary) + uses k (slot_links next row.proof)

abbrev pub rows_use : List ℕ → ℕ → List Row → ℕ
rows_use next k [] = 0
rows_use next k (row ∷ rs) = row_uses next k row + rows_use next k rs

-- the size of a part is that of its bytes, from 1 to what a blob may have
abbrev pub is_sized : Option Slot → Option (List ℕ) → Bool
is_sized None bytes = true
is_sized (Some slot) None = false
is_sized (Some slot) (Some bytes) =
    nat_eq (length bytes) slot.size && nat_lt 0 slot.size && nat_le slot.size most_bytes

abbrev pub are_sized : Row → Parts → Bool
are_sized row parts =
    is_sized row.metadata parts.metadata && is_sized row.primary parts.primary
    && is_sized row.secondary parts.secondary && is_sized row.proof parts.proof

-- the parts of a row have their sizes
abbrev pub IsSized : Linked → Row → Type 0
IsSized linked row = are_sized row (parts_of linked row) ≡ true

-- the page of a holding begins with its identifier
abbrev pub IsHome : Linked → Row → Type 0
IsHome linked row = take (length row.id.0) (page_bytes linked.states row.home) ≡ row.id.0

-- the rows stand in order, each page that is taken has one use, and each holding has its page
pub record Owns (linked : Linked) (rows : List Row) : Type 0 where
  pub sorted : IsStrictlySortedBy id_cmp (ids_of rows)
  pub sized : AllByRecursion (IsSized linked) rows
  pub uses : (k : ℕ) → rows_use linked.next k rows ≡ taken_at linked.states k
  pub homes : AllByRecursion (IsHome linked) rows

-- an identifier is past those below a place, and before those from it on
pub record IsGap (id : BlobId) (ids : List BlobId) (place : ℕ) : Type 0 where
  pub within : place ≤ length ids
  pub before : (j : ℕ) (other : BlobId) → j < place → slice_get ids j ≡ Some other
      → id_cmp id other ≡ Greater
  pub after : (j : ℕ) (other : BlobId) → place ≤ j → slice_get ids j ≡ Some other
      → id_cmp id other ≡ Less

abbrev pub no_slot : Option Slot → Bool
no_slot None = true
no_slot (Some slot) = false

-- the row has no part
abbrev pub is_bare : Row → Bool
is_bare row =
    no_slot row.metadata && no_slot row.primary && no_slot row.secondary && no_slot row.proof
