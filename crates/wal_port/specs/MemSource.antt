-- What contracts see of a source in memory.
use Rattle.std.specs.Prelude.{ℕ, List, drop}
use Rattle.wal_port.specs.declared.mem_source.MemSource.{MemSource}

-- the bytes that are still to come
abbrev pub source_left : MemSource → List ℕ
source_left source = drop source.given source.bytes.items

-- the most bytes that it gives in one call
abbrev pub source_piece : MemSource → ℕ
source_piece source = source.piece

-- the numbers of the calls that fail
abbrev pub source_fails : MemSource → List ℕ
source_fails source = source.fails.items

-- how many calls there were, up to 2 ^ 64 - 1
abbrev pub source_calls : MemSource → ℕ
source_calls source = source.calls

-- how many of them failed
abbrev pub source_faults : MemSource → ℕ
source_faults source = source.faults
