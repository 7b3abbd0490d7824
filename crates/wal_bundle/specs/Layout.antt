-- How members are laid into the columns of one blob.
--
-- The index fills columns from column 0 on, and the bytes of each member fill columns behind it,
-- from a column's start.
use Rattle.std.specs.Prelude.{◌≡◌, ℕ, ◌+◌, ◌-◌, ◌*◌, ◌%◌, ◌<◌, ◌≤◌, List, ◌++◌, length, map, take}
use Rattle.std.specs.Prelude.{replicate, slice_index, Result, Ok, Err}
use Rattle.std.specs.Int.{w16, w32, div_ceil}
use Rattle.std.specs.List.{flat_map, range_with_len, sum_by}
use Rattle.wal_shape.specs.Shape.{cell_count, column_count, most_bytes, row_count}
use Rattle.wal_shape.specs.Spelling.{number_text}
use Rattle.wal_matrix.specs.Columns.{block_of_columns}
use Rattle.wal_bundle.specs.declared.answer.BundleError.{BundleError}
use Rattle.wal_bundle.specs.declared.answer.BundleError.TheVariants.{BadFaults, Memory, TooLong}
use Rattle.wal_bundle.specs.declared.answer.BundleError.TheVariants.{TooMany}

-- the number of bytes of a column, for symbols of this size
abbrev pub column_bytes : ℕ → ℕ → ℕ
column_bytes f symbol_size = row_count f * symbol_size

-- the number of columns of `size` bytes that this many bytes need
unfoldable pub columns_for : ℕ → ℕ → ℕ
columns_for size bytes = div_ceil bytes size

-- the number of bytes of the index of `count` members
abbrev pub index_bytes : ℕ → ℕ
index_bytes count = 2 + 6 * count

-- the number of columns of the index of `count` members
abbrev pub index_columns : ℕ → ℕ → ℕ
index_columns size count = columns_for size (index_bytes count)

-- the number of columns of members of these lengths: an empty one takes none
unfoldable pub member_columns : ℕ → List ℕ → ℕ
member_columns size lengths = sum_by (columns_for size) lengths

-- the column with which member k begins
unfoldable pub first_column : ℕ → List ℕ → ℕ → ℕ
first_column size lengths k =
    index_columns size (length lengths) + member_columns size (take k lengths)

-- the number of columns that are used
unfoldable pub used_columns : ℕ → List ℕ → ℕ
used_columns size lengths = index_columns size (length lengths) + member_columns size lengths

-- the columns that are used are among those of the source block, for symbols of this size
abbrev pub ColumnsFit : ℕ → List ℕ → ℕ → Type 0
ColumnsFit f lengths symbol_size =
    used_columns (column_bytes f symbol_size) lengths ≤ column_count f

-- the size is the least even number, at least 2, for which the columns fit
pub record IsBundleSize (f : ℕ) (lengths : List ℕ) (symbol_size : ℕ) : Type 0 where
  pub even : symbol_size % 2 ≡ 0
  pub positive : 2 ≤ symbol_size
  pub room : ColumnsFit f lengths symbol_size
  pub least : (less : ℕ) → less % 2 ≡ 0 → 2 ≤ less → ColumnsFit f lengths less → symbol_size ≤ less

-- the entry of member k: its first column, and its length
unfoldable pub entry_text : ℕ → List ℕ → ℕ → List ℕ
entry_text size lengths k =
    number_text w16 (first_column size lengths k) ++ number_text w32 (slice_index lengths k)

-- the entries of the first members
abbrev pub entries_text : ℕ → List ℕ → ℕ → List ℕ
entries_text size lengths count = flat_map (entry_text size lengths) (range_with_len 0 count)

-- the index: the number of members, and an entry for each
unfoldable pub index_text : ℕ → List ℕ → List ℕ
index_text size lengths =
    number_text w16 (length lengths) ++ entries_text size lengths (length lengths)

-- bytes, and zeros up to the end of their last column
unfoldable pub whole_columns : ℕ → List ℕ → List ℕ
whole_columns size bytes =
    bytes ++ replicate (columns_for size (length bytes) * size - length bytes) 0

-- the lengths of members
abbrev pub lengths_of : List (List ℕ) → List ℕ
lengths_of members = map (λ member. length member) members

-- the columns that are used, one after the other: the index, and the members
unfoldable pub columns_text : ℕ → List (List ℕ) → List ℕ
columns_text size members =
    whole_columns size (index_text size (lengths_of members))
    ++ flat_map (whole_columns size) members

-- the bundle for symbols of this size: the source block that has these columns, row by row
unfoldable pub bundle_text : ℕ → ℕ → List (List ℕ) → List ℕ
bundle_text f symbol_size members =
    block_of_columns f symbol_size (columns_text (column_bytes f symbol_size) members)
    (used_columns (column_bytes f symbol_size) (lengths_of members))

-- these bytes are the bundle of the members, of which there are at most twice as many as faults
pub record IsBundle (f : ℕ) (members : List (List ℕ)) (bytes : List ℕ) : Type 0 where
  pub few : length members ≤ 2 * f
  pub size : ℕ
  pub least : IsBundleSize f (lengths_of members) size
  pub text : bytes ≡ bundle_text f size members

-- the result of bundling members for f faults; one of these cases applies, but for want of memory
abbrev pub Bundles : ℕ → List (List ℕ) → Result (List ℕ) BundleError → Type 0
Bundles f members (Ok bytes) =
    (1 ≤ f) × (f ≤ 333) × IsBundle f members bytes × (length bytes ≤ most_bytes)
-- there is no such number of faults
Bundles f members (Err BadFaults) = (1 ≤ f) × (f ≤ 333) → ⊥
-- there are more than twice as many members as faults
Bundles f members (Err TooMany) = (1 ≤ f) × (f ≤ 333) × (2 * f < length members)
-- the bundle would be longer than a blob may be
Bundles f members (Err TooLong) =
    (1 ≤ f) × (f ≤ 333) × (length members ≤ 2 * f)
    × (symbol_size : ℕ) × IsBundleSize f (lengths_of members) symbol_size
    × (most_bytes < cell_count f * symbol_size)
Bundles f members (Err Memory) = Unit {0}
