-- What contracts see of a disk that says nothing of crashes.
use Rattle.std.specs.Prelude.{ℕ, List}
use Rattle.wal_journal.specs.declared.flat_disk.FlatDisk.{FlatDisk}

-- the bytes that a read gives
abbrev pub flat_bytes : FlatDisk → List ℕ
flat_bytes disk = disk.bytes.items
