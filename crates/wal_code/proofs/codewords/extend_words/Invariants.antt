-- Each place so far has its index.
use Rattle.wal_code.proofs.Common.{◌≡◌, ℕ, ◌<◌, slice_index}
use Rattle.wal_code.proofs.codewords.extend_words.Given as goal

abbrev pub invariant-loop-place : goal.invariant-loop-place
invariant-loop-place l = (i : ℕ) → i < l.place → slice_index l.point-items i ≡ i
