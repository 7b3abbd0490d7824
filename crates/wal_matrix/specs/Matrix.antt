-- The extended matrix of a blob, and its slivers.
--
-- A matrix has n rows and n columns of symbols of one size, and lies row by row.
use Rattle.std.specs.Prelude.{◌≡◌, ℕ, ◌+◌, ◌-◌, ◌*◌, ◌<◌, List, length, take, drop, ◌++◌, replicate}
use Rattle.std.specs.Prelude.{slice_index}
use Rattle.std.specs.List.{flat_map, range_with_len}
use Rattle.wal_code.specs.Codeword.{IsCodeword}
use Rattle.wal_kernel.specs.Region.{word_at}
use Rattle.wal_shape.specs.declared.axis.Axis.{Axis}
use Rattle.wal_shape.specs.declared.axis.Axis.TheVariants.{Primary, Secondary}
use Rattle.wal_shape.specs.Shape.{BlobShape, shard_count, row_count, column_count, symbol_size}

-- the symbol in this row and column of a matrix of n columns
unfoldable pub symbol : ℕ → ℕ → List ℕ → ℕ → ℕ → List ℕ
symbol n cell_size block row column =
    take cell_size (drop ((row * n + column) * cell_size) block)

-- the bytes of the source block: the blob, and zeros after it
unfoldable pub padded : ℕ → List ℕ → List ℕ
padded f bytes =
    bytes
    ++ replicate (row_count f * column_count f * symbol_size f (length bytes) - length bytes) 0

-- all rows and columns of the matrix are codewords: at each place of a word within the symbols, the
-- words of a row are a codeword whose dimension is the number of the source block's columns, and
-- those of a column are one whose dimension is the number of its rows
pub record IsCodedMatrix (f cell_size : ℕ) (extended : List ℕ) : Type 0 where
  pub size : length extended ≡ shard_count f * shard_count f * cell_size
  pub fits : (i : ℕ) → i < length extended → slice_index extended i < 256
  pub rows : (row word : ℕ) → row < shard_count f → 2 * word < cell_size
      → IsCodeword (column_count f) (shard_count f)
      (λ column. word_at (symbol (shard_count f) cell_size extended row column) word)
  pub columns : (column word : ℕ) → column < shard_count f → 2 * word < cell_size
      → IsCodeword (row_count f) (shard_count f)
      (λ row. word_at (symbol (shard_count f) cell_size extended row column) word)

-- a coded matrix that has the source block in its first rows and columns
pub record IsMatrixOf (f cell_size : ℕ) (block extended : List ℕ) : Type 0 where
  pub coded : IsCodedMatrix f cell_size extended
  pub source : (row column : ℕ) → row < row_count f → column < column_count f
      → symbol (shard_count f) cell_size extended row column
      ≡ symbol (column_count f) cell_size block row column

-- this is the extended matrix of these bytes, for f faults
abbrev pub IsExtended : ℕ → List ℕ → List ℕ → Type 0
IsExtended f bytes extended = IsMatrixOf f (symbol_size f (length bytes)) (padded f bytes) extended

-- row i
unfoldable pub row_of : ℕ → ℕ → List ℕ → ℕ → List ℕ
row_of n cell_size extended i = take (n * cell_size) (drop (i * n * cell_size) extended)

-- primary sliver i: the first symbols of row i
unfoldable pub primary_of : ℕ → ℕ → List ℕ → ℕ → List ℕ
primary_of f cell_size extended i =
    take (column_count f * cell_size) (row_of (shard_count f) cell_size extended i)

-- the first symbols of column j, as many as there are rows
unfoldable pub column_part : ℕ → ℕ → List ℕ → ℕ → ℕ → List ℕ
column_part n cell_size block rows j =
    flat_map (λ row. symbol n cell_size block row j) (range_with_len 0 rows)

-- column j
unfoldable pub column_of : ℕ → ℕ → List ℕ → ℕ → List ℕ
column_of n cell_size extended j = column_part n cell_size extended n j

-- secondary sliver j: the first symbols of column j
unfoldable pub secondary_of : ℕ → ℕ → List ℕ → ℕ → List ℕ
secondary_of f cell_size extended j = column_part (shard_count f) cell_size extended (row_count f) j

-- the line of an axis and index, with all its symbols: a primary one is a row, and a secondary one
-- a column
abbrev pub line_of : Axis → ℕ → ℕ → List ℕ → ℕ → List ℕ
line_of Primary f cell_size extended i = row_of (shard_count f) cell_size extended i
line_of Secondary f cell_size extended i = column_of (shard_count f) cell_size extended i

-- the sliver of an axis and index: the first symbols of the line
abbrev pub sliver_of : Axis → ℕ → ℕ → List ℕ → ℕ → List ℕ
sliver_of Primary f cell_size extended i = primary_of f cell_size extended i
sliver_of Secondary f cell_size extended i = secondary_of f cell_size extended i

-- an encoded blob: its shape, and the bytes of its matrix, row by row
pub record EncodedBlob : Type 0 where
  pub shape : BlobShape
  pub cells : List ℕ

-- the number of bytes of one of its symbols
abbrev pub symbol_bytes : EncodedBlob → ℕ
symbol_bytes encoded = symbol_size encoded.shape.f encoded.shape.length

-- the number of its rows, and of its columns
abbrev pub shards : EncodedBlob → ℕ
shards encoded = shard_count encoded.shape.f
