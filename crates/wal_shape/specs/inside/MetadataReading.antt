-- What serves private functions and proofs beside MetadataReading.
use Rattle.std.specs.Prelude.{◌≡◌, ℕ, ◌+◌, ◌*◌, List, length}
use Rattle.wal_shape.specs.declared.axis.Axis.{Axis}
use Rattle.wal_shape.specs.declared.axis.Axis.TheVariants.{Primary, Secondary}
use Rattle.wal_shape.specs.Shape.{IsShape, shard_count}
use Rattle.wal_shape.specs.MetadataReading.{behind_format, spelled_f, spelled_length}

-- where the primary root of this pair begins, or the secondary one
abbrev pub root_place_of : Axis → ℕ → ℕ
root_place_of Primary pair = 10 + 64 * pair
root_place_of Secondary pair = 42 + 64 * pair

-- the numbers are fit, all pairs of roots are there, and nothing else is
abbrev pub AreNumbersAndRoots : List ℕ → Type 0
AreNumbersAndRoots bytes =
    IsShape (spelled_f bytes) (spelled_length bytes)
    × (length bytes ≡ 10 + 64 * shard_count (spelled_f bytes))

-- the bytes spell metadata
abbrev pub SpellMetadata : List ℕ → Type 0
SpellMetadata bytes = AreNumbersAndRoots (behind_format bytes)
