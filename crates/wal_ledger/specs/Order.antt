-- Identifiers in ascending order.
use Rattle.std.specs.Prelude.{List}
use Rattle.std.specs.List.Sorted.{IsStrictlySortedBy}
use Rattle.wal_shape.specs.declared.metadata.BlobId.{BlobId}
use Rattle.wal_shape.specs.Identifiers.{id_cmp}

-- each identifier is below those after it
abbrev pub Ascends : List BlobId → Type 0
Ascends ids = IsStrictlySortedBy id_cmp ids
