-- A table of identifiers and the rows that are kept for them.
use Rattle.std.specs.Prelude.{◌≡◌, ℕ, ◌<◌, ◌≤◌, max, false, cond, nat_le, nat_lt, List, [], ◌∷◌}
use Rattle.std.specs.Prelude.{length, map, filter, replicate, slice_index_or, All, HoldsAt}
use Rattle.std.specs.Prelude.{Contains}
use Rattle.std.specs.List.{insert}
use Rattle.std.specs.BTreeSet.{insert_key}
use Rattle.wal_shape.specs.declared.metadata.BlobId.{BlobId}
use Rattle.wal_ledger.specs.declared.entry.Entry.{Entry}
use Rattle.wal_ledger.specs.declared.entry.Kind.{Kind}
use Rattle.wal_ledger.specs.declared.entry.Kind.TheVariants.{Holds, Denies}
use Rattle.wal_ledger.specs.declared.tally.Tally.{Tally}
use Rattle.wal_ledger.specs.declared.rows.Row.{Row}
use Rattle.wal_ledger.specs.inside.Tally.{IsTally, no_tally}
use Rattle.wal_ledger.specs.Ledger.{until_among}
use Rattle.wal_ledger.specs.Order.{Ascends}
use Rattle.wal_shape.specs.Identifiers.{id_eq, id_cmp}

-- the first place at which an identifier stands
pub record IsPlace (ids : List BlobId) (id : BlobId) (place : ℕ) : Type 0 where
  pub within : place < length ids
  pub here : HoldsAt (λ i. i ≡ id) ids place
  pub before : (j : ℕ) → j < place → HoldsAt (λ i. id_eq i id ≡ false) ids j
  pub stays : insert_key id_cmp ids id ≡ ids

-- the place at which an identifier that does not stand there belongs
pub record IsInsertionPoint (ids : List BlobId) (id : BlobId) (place : ℕ) : Type 0 where
  pub within : place ≤ length ids
  pub absent : All (λ i. id_eq i id ≡ false) ids
  pub inserted : insert ids place id ≡ insert_key id_cmp ids id

-- the row of an identifier without entries
abbrev pub no_row : Row
no_row = record { until = 0; holds = no_tally; denies = no_tally }

-- the row after a registration in a reading epoch
abbrev pub row_registered : ℕ → ℕ → Row → Row
row_registered epoch until row =
    cond (nat_le row.until epoch) (record no_row { until = until })
    (record row { until = max row.until until })

-- the tally of one kind
abbrev pub tally_of : Kind → Row → Tally
tally_of Holds row = row.holds
tally_of Denies row = row.denies

abbrev pub with_tally : Kind → Tally → Row → Row
with_tally Holds tally row = record row { holds = tally }
with_tally Denies tally row = record row { denies = tally }

-- identifiers, the row of each, those of them that are live, and how many more fit
pub record Rows : Type 0 where
  pub ids : List BlobId
  pub rows : List Row
  pub live : List BlobId
  pub spare : ℕ

-- the identifier with this number, and its row; past the last one zeros, and the row without
-- entries
abbrev pub id_of : List BlobId → ℕ → BlobId
id_of ids number = slice_index_or ids number (record { 0 = replicate 32 0 })

abbrev pub row_of : List Row → ℕ → Row
row_of rows number = slice_index_or rows number no_row

-- the identifiers with these numbers
abbrev pub ids_of : List BlobId → List ℕ → List BlobId
ids_of ids numbers = map (id_of ids) numbers

-- numbers of identifiers, in ascending order of the identifiers
pub record IsOrder (ids : List BlobId) (numbers : List ℕ) : Type 0 where
  pub below : All (λ n. n < length ids) numbers
  pub ascends : Ascends (ids_of ids numbers)

-- each identifier has a row; one list has the numbers of all identifiers, another those of some
pub record IsTable (ids : List BlobId) (rows : List Row) (order live : List ℕ) : Type 0 where
  pub beside : length rows ≡ length ids
  pub whole : length order ≡ length ids
  pub few : length live ≤ length ids
  pub each : (n : ℕ) → n < length ids → Contains order n
  pub ordered : IsOrder ids order
  pub alive : IsOrder ids live

-- the row that stands beside an identifier
abbrev pub row_beside : List BlobId → List Row → BlobId → Row
row_beside [] rows id = no_row
row_beside (i ∷ ids) [] id = no_row
row_beside (i ∷ ids) (row ∷ rows) id = cond (id_eq i id) row (row_beside ids rows id)

abbrev pub row_in : Rows → BlobId → Row
row_in table id = row_beside table.ids table.rows id

-- the identifiers whose `until` is after the reading epoch
abbrev pub living : ℕ → Rows → List BlobId
living epoch table = filter (λ id. nat_lt epoch (row_in table id).until) table.ids

-- a row tells what an identifier's own entries do
pub record IsRow (f : ℕ) (owners : ℕ → List ℕ) (own entries : List Entry)
    (links : List ℕ) (row : Row) : Type 0 where
  pub until : row.until ≡ until_among own
  pub tallies : (kind : Kind) → IsTally f owners own kind entries links (tally_of kind row)
