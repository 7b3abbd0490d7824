-- The symbols so far are copied.
use Rattle.wal_recover.proofs.Common.{◌≡◌, ◌*◌, take, symbols_of}
use Rattle.wal_recover.proofs.solving.copy_symbols.Given as goal

abbrev pub invariant-loop-place : goal.invariant-loop-place
invariant-loop-place l = take (l.place * l.size) l.symbols ≡ symbols_of (take l.place l.openings)
