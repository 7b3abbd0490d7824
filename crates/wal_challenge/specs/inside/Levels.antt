-- The levels of a hash tree, kept as bytes.
use Rattle.std.specs.Prelude.{◌≡◌, ℕ, ◌+◌, ◌*◌, ◌/◌, ◌%◌, ◌<◌, ◌≤◌, List, ◌++◌, length, take, drop}
use Rattle.std.specs.Prelude.{replicate, Some, slice_get, slice_index_or}
use Rattle.wal_tree.specs.Tree.{empty_entry, leaves}
use Rattle.wal_tree.specs.inside.Tree.{level_above}

-- the bytes of a level, and the empty entry behind an odd number of entries
abbrev pub evened : List ℕ → List ℕ
evened bytes = bytes ++ replicate (length bytes % 64) 0

-- the bytes have these entries in order, and the empty one behind an odd number of them
pub record IsLevel (entries : List (List ℕ)) (bytes : List ℕ) : Type 0 where
  pub many : 1 < length entries
  pub long : length bytes ≡ 64 * ((length entries + 1) / 2)
  pub each : (i : ℕ) → 32 * i + 32 ≤ length bytes
      → take 32 (drop (32 * i) bytes) ≡ slice_index_or entries i empty_entry

-- the first levels of the tree over these entries, from the entries upwards
abbrev pub FirstLevels : (List ℕ → List ℕ) → List (List ℕ) → List (List ℕ) → Type 0
FirstLevels digest entries levels =
    (k : ℕ) (bytes : List ℕ) → slice_get levels k ≡ Some bytes
    → IsLevel (level_above digest k entries) bytes

-- the levels below the root of the tree over a content of whole pieces of `size` bytes
pub record AreLevels (digest : List ℕ → List ℕ) (size : ℕ)
    (content : List ℕ) (levels : List (List ℕ)) : Type 0 where
  pub first : FirstLevels digest (leaves digest (length content / size) size content) levels
  pub top : length
      (level_above digest (length levels) (leaves digest (length content / size) size content))
      ≤ 1
