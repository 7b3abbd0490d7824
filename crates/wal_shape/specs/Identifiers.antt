-- Identifiers of blobs: when two are the same, and their order.
use Rattle.std.specs.Prelude.{Bool, nat_eq}
use Rattle.std.specs.declared.cmp.Ordering.{Ordering}
use Rattle.std.specs.Ordering.{nat_cmp}
use Rattle.std.specs.Cmp.Lexicographic.{pointwise, slice_cmp}
use Rattle.wal_shape.specs.declared.metadata.BlobId.{BlobId}

-- whether two identifiers have the same bytes
abbrev pub id_eq : BlobId → BlobId → Bool
id_eq one other = pointwise nat_eq one.0 other.0

-- the order of identifiers, by their bytes from the first on
abbrev pub id_cmp : BlobId → BlobId → Ordering
id_cmp one other = slice_cmp nat_cmp one.0 other.0
