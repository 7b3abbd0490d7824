-- The openings so far have the symbols of the matrix.
use Rattle.wal_extract.proofs.Common.{◌≡◌, ◌<◌, ℕ, Some, slice_get, Opening, proof_shown, symbol_bytes, own_symbol}
use Rattle.wal_extract.proofs.false_parts.first_false_opening.Given as goal

abbrev pub invariant-loop-place : goal.invariant-loop-place
invariant-loop-place l = (k : ℕ) → k < l.place → (o : Opening) → slice_get (proof_shown l.p).openings k ≡ Some o →
    o.symbol ≡ own_symbol l.matrix.shape.f (symbol_bytes l.matrix) l.matrix.cells (proof_shown l.p) o
