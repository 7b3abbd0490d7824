-- A flag for each shard that stands in a list.
use Rattle.std.specs.Prelude.{◌≡◌, ◌↔◌, ℕ, ◌<◌, Bool, false, List, length, slice_index_or, IsTrue}
use Rattle.std.specs.Prelude.{Contains}

-- the greatest number of shards
abbrev pub most_shards : ℕ
most_shards = 1000

-- the flags that are up are those of the numbers
pub record Marks (flags : List Bool) (numbers : List ℕ) : Type 0 where
  pub long : length flags ≡ most_shards
  pub up : (i : ℕ) → i < most_shards → IsTrue (slice_index_or flags i false) ↔ Contains numbers i
