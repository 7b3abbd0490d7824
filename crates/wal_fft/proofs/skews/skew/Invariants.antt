use Rattle.wal_fft.proofs.Common.{◌≡◌, ◌*◌, ◌<◌, bit_at, xor_below, entry}
use Rattle.wal_fft.proofs.skews.skew.Given as goal

abbrev pub invariant-loop-place : goal.invariant-loop-place
invariant-loop-place l = (l.sum ≡ xor_below l.place (λ i. bit_at l.fn.point i * entry l.fn.row i)) × (l.sum < 65536)
