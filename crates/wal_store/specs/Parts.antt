use Rattle.std.specs.Prelude.{ℕ, ◌+◌, ◌/◌, Bool, true, false, ◌&&◌, List, Option, Some, None}
use Rattle.std.specs.Prelude.{length, nat_lt, nat_le}
use Rattle.wal_shape.specs.declared.part.Part.{Part}
use Rattle.wal_shape.specs.declared.part.Part.TheVariants.{Metadata, Primary, Secondary, Proof}
use Rattle.wal_shape.specs.Shape.{most_bytes}

-- what a shard holds under one identifier
pub record Parts : Type 0 where
  pub metadata : Option (List ℕ)
  pub primary : Option (List ℕ)
  pub secondary : Option (List ℕ)
  pub proof : Option (List ℕ)

-- nothing is held
abbrev pub no_parts : Parts
no_parts = record { metadata = None; primary = None; secondary = None; proof = None }

-- the bytes of a part, if it is held
abbrev pub part_of : Parts → Part → Option (List ℕ)
part_of parts Metadata = parts.metadata
part_of parts Primary = parts.primary
part_of parts Secondary = parts.secondary
part_of parts Proof = parts.proof

-- the same, but for one part
abbrev pub with_part : Parts → Part → Option (List ℕ) → Parts
with_part parts Metadata bytes = record parts { metadata = bytes }
with_part parts Primary bytes = record parts { primary = bytes }
with_part parts Secondary bytes = record parts { secondary = bytes }
with_part parts Proof bytes = record parts { proof = bytes }

abbrev pub is_absent : Option (List ℕ) → Bool
is_absent None = true
is_absent (Some bytes) = false

-- no part is held
abbrev pub is_empty : Parts → Bool
is_empty parts =
    is_absent parts.metadata && is_absent parts.primary && is_absent parts.secondary
    && is_absent parts.proof

-- the pages that so many bytes fill, the last one perhaps in part
unfoldable pub pages_for : ℕ → ℕ
pages_for size = (size + 4095) / 4096

abbrev pub part_cost : Option (List ℕ) → ℕ
part_cost None = 0
part_cost (Some bytes) = pages_for (length bytes)

-- a holding costs one page, and the pages of its parts
abbrev pub cost_of : Parts → ℕ
cost_of parts =
    1 + part_cost parts.metadata + part_cost parts.primary + part_cost parts.secondary
    + part_cost parts.proof

-- a part has from 1 byte to as many as a blob may have
abbrev pub is_fit : Option (List ℕ) → Bool
is_fit None = true
is_fit (Some bytes) = nat_lt 0 (length bytes) && nat_le (length bytes) most_bytes
