use Rattle.wal_lanes.proofs.Common.{◌≡◌, ℕ, ◌<◌, slice_index, hash_after, lane, text}
use Rattle.wal_lanes.proofs.texts.after_whole_blocks.Given as goal

abbrev pub invariant-middle : goal.invariant-middle
invariant-middle l =
    (k : ℕ) → k < l.lanes → lane l.after k ≡ hash_after (lane l.fn.state k) (text (slice_index l.firsts k) l.size l.pieces k) l.block
