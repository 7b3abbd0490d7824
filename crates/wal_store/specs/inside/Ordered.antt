use Rattle.std.specs.Prelude.{◌≡◌, ℕ, ◌+◌, ◌<◌, ◌≤◌, List, length, map, replicate, slice_index_or}
use Rattle.wal_store.specs.declared.rows.Row.{Row}
use Rattle.wal_store.specs.inside.Chain.{uses}
use Rattle.wal_store.specs.inside.Rows.{no_slots}

-- rows in order, and for how many there is room
pub record RowList : Type 0 where
  pub items : List Row
  pub room : ℕ

-- the row in a slot; past the last one, an empty row of an identifier of zeros
abbrev pub row_of : List Row → ℕ → Row
row_of slots number = slice_index_or slots number (no_slots (record { 0 = replicate 32 0 }) 0)

-- the rows with these numbers, one after the other
abbrev pub rows_at : List Row → List ℕ → List Row
rows_at slots numbers = map (row_of slots) numbers

-- each number of a row is either in the order or among those that are not used, and only once
pub record IsOrder (slots : List Row) (order unused : List ℕ) : Type 0 where
  pub once : (k : ℕ) → uses k order + uses k unused ≤ 1
  pub within : (k : ℕ) → 0 < uses k order + uses k unused → k < length slots
  pub all : length order + length unused ≡ length slots
