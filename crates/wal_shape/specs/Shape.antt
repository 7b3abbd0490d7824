-- The shape of a blob: the numbers of shards, rows and columns, and the size of a symbol.
use Rattle.std.specs.Prelude.{◌≡◌, ℕ, ◌+◌, ◌*◌, ◌%◌, ◌≤◌, max}
use Rattle.std.specs.Int.{div_ceil}
use Rattle.wal_shape.specs.declared.axis.Axis.{Axis}
use Rattle.wal_shape.specs.declared.axis.Axis.TheVariants.{Primary, Secondary}
use Rattle.wal_shape.specs.declared.shape.Format.{Format}

-- a shape: the format, the number of faults, and the blob's length in bytes
pub record BlobShape : Type 0 where
  pub format : Format
  pub f : ℕ
  pub length : ℕ

-- the most bytes that a blob may have, 16 MiB; no symbol, sliver or part that is kept has more
abbrev pub most_bytes : ℕ
most_bytes = 16777216

-- the axis of the slivers that cross those of this axis
abbrev pub crossing : Axis → Axis
crossing Primary = Secondary
crossing Secondary = Primary

-- the numbers of faults and the lengths that have a shape
abbrev pub IsShape : ℕ → ℕ → Type 0
IsShape f length = (1 ≤ f) × (f ≤ 333) × (length ≤ most_bytes)

-- the number of shards, of which at most f are faulty
abbrev pub shard_count : ℕ → ℕ
shard_count f = 3 * f + 1

-- the number of rows of the source block
abbrev pub row_count : ℕ → ℕ
row_count f = f + 1

-- the number of columns of the source block
abbrev pub column_count : ℕ → ℕ
column_count f = 2 * f + 1

-- the number of symbols of the source block
abbrev pub cell_count : ℕ → ℕ
cell_count f = row_count f * column_count f

-- the number of bytes of a symbol: two for each word that a cell needs, and at least one word
unfoldable pub symbol_size : ℕ → ℕ → ℕ
symbol_size f length = 2 * max 1 (div_ceil length (2 * cell_count f))

-- the size is the least even number, at least 2, for which the source block has room for the blob
pub record IsSymbolSize (f length size : ℕ) : Type 0 where
  pub even : size % 2 ≡ 0
  pub positive : 2 ≤ size
  pub room : length ≤ cell_count f * size
  pub least : (less : ℕ) → less % 2 ≡ 0 → 2 ≤ less → length ≤ cell_count f * less → size ≤ less

-- the number of symbols of a sliver: a primary one is a row, and a secondary one a column
abbrev pub sliver_symbols : Axis → ℕ → ℕ
sliver_symbols Primary f = column_count f
sliver_symbols Secondary f = row_count f
