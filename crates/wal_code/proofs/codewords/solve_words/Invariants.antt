-- Each place so far has the combination of the values for it.
use Rattle.wal_code.proofs.Common.{◌≡◌, ℕ, ◌<◌, slice_index, combination}
use Rattle.wal_code.proofs.codewords.solve_words.Given as goal

abbrev pub invariant-loop-place : goal.invariant-loop-place
invariant-loop-place l =
    (i : ℕ) → i < l.place → slice_index l.out i ≡ combination l.known (slice_index l.values) i
