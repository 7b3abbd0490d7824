-- The slivers so far are the matrix's own.
use Rattle.wal_extract.proofs.Common.{◌≡◌, ◌*◌, ◌<◌, ℕ, slice_index, region, column_count, primary_of, symbol_bytes}
use Rattle.wal_extract.proofs.false_parts.first_false_sliver.Given as goal

abbrev pub invariant-loop-place : goal.invariant-loop-place
invariant-loop-place l = (k : ℕ) → k < l.place →
    region (column_count l.matrix.shape.f * symbol_bytes l.matrix) l.joined k
    ≡ primary_of l.matrix.shape.f (symbol_bytes l.matrix) l.matrix.cells (slice_index l.indices k)
