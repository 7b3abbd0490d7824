-- A flag for each number.
use Rattle.std.specs.Prelude.{ℕ, Bool, false, List, slice_index_or}

-- whether the flag of a number is up
abbrev pub flag_of : List Bool → ℕ → Bool
flag_of flags number = slice_index_or flags number false
