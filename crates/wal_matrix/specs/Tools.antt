-- What is kept from one call to the next.
use Rattle.std.specs.Prelude.{ℕ, ◌*◌, List}
use Rattle.wal_shape.specs.Shape.{column_count, symbol_size, most_bytes}

-- the number of bytes of the longest symbol for f faults
abbrev pub longest_symbol : ℕ → ℕ
longest_symbol f = symbol_size f most_bytes

-- the number of bytes of the longest sliver for f faults
abbrev pub longest_sliver : ℕ → ℕ
longest_sliver f = column_count f * longest_symbol f

-- what a caller sees of the tools: the number of faults, and the bytes that were loaded
pub record WorkState : Type 0 where
  pub f : ℕ
  pub loaded : List ℕ
