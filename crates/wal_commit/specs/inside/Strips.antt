-- The symbols of a blob's extended matrix as pieces of equal length, row by row.
use Rattle.std.specs.Prelude.{◌≡◌, ℕ, ◌*◌, ◌<◌, List, length, take, drop}
use Rattle.wal_shape.specs.Shape.{BlobShape, shard_count, symbol_size}
use Rattle.wal_matrix.specs.Matrix.{IsExtended}

-- a blob: its shape, and its bytes
pub record BlobState : Type 0 where
  pub shape : BlobShape
  pub bytes : List ℕ

-- the number of symbols of its matrix
abbrev pub symbols_of : BlobState → ℕ
symbols_of blob = shard_count blob.shape.f * shard_count blob.shape.f

-- the number of bytes of each symbol
abbrev pub bytes_of_symbol : BlobState → ℕ
bytes_of_symbol blob = symbol_size blob.shape.f (length blob.bytes)

-- the piece is the symbol at this place of the matrix
pub record IsSymbolAt (blob : BlobState) (place : ℕ) (piece : List ℕ) : Type 0 where
  pub within : place < symbols_of blob
  pub matrix : List ℕ
  pub extended : IsExtended blob.shape.f blob.bytes matrix
  pub part : piece ≡ take (bytes_of_symbol blob) (drop (place * bytes_of_symbol blob) matrix)
