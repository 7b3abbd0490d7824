-- What the values of the program stand for.
use Rattle.std.specs.Prelude.{List, map}
use Rattle.wal_record.specs.declared.record.Row.{Row}
use Rattle.wal_record.specs.declared.context.Epoch.{Epoch}
use Rattle.wal_record.specs.Told.{context_told, record_told}
use Rattle.wal_follow.specs.Enter.{Kept}

-- what is kept, by a context and rows
abbrev pub kept_told : Epoch → List Row → Kept
kept_told epoch rows = record { context = context_told epoch; blobs = map record_told rows }
