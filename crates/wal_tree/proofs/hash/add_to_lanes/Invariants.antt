-- Each lane with what is still to be added to it is what it will be.
use Rattle.wal_tree.proofs.Common.{◌≡◌, ℕ, ◌+◌, ◌<◌, get_or, drop, bit_xor, lane_sum}
use Rattle.wal_tree.proofs.hash.add_to_lanes.Given as goal

abbrev pub invariant-loop-index : goal.invariant-loop-index
invariant-loop-index l = (k : ℕ) → k < 32 →
    bit_xor (get_or l.sums k 0) (lane_sum k (l.start + l.index) (drop l.index l.text))
    ≡ bit_xor (get_or l.fn.sums k 0) (lane_sum k l.start l.text)
