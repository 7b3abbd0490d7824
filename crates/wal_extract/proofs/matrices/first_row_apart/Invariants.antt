-- The rows so far are the same.
use Rattle.wal_extract.proofs.Common.{◌≡◌, ℕ, ◌<◌, row_of, shards, symbol_bytes}
use Rattle.wal_extract.proofs.matrices.first_row_apart.Given as goal

abbrev pub invariant-loop-index : goal.invariant-loop-index
invariant-loop-index l = (i : ℕ) → i < l.index → row_of (shards l.a) (symbol_bytes l.a) l.a.cells i ≡ row_of (shards l.b) (symbol_bytes l.b) l.b.cells i
