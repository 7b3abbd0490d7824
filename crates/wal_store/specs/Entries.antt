use Rattle.std.specs.Prelude.{List, Option, filter, slice_get}
use Rattle.std.specs.Map.{keys_of}
use Rattle.wal_shape.specs.declared.BlobId.{BlobId}
use Rattle.wal_store.specs.Parts.{Parts}
use Rattle.wal_store.specs.Places.{is_past}

-- holdings in the order of their identifiers
abbrev pub Entries : Type 0
Entries = List (BlobId × Parts)

-- the first identifier past another one
abbrev pub key_past : Entries → Option BlobId → Option BlobId
key_past entries last = slice_get (filter (is_past last) (keys_of entries)) 0
