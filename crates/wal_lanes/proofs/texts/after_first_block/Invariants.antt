use Rattle.wal_lanes.proofs.Common.{◌≡◌, ℕ, ◌*◌, ◌<◌, length, take, drop, slice_index, text}
use Rattle.wal_lanes.proofs.texts.after_first_block.Given as goal

abbrev pub invariant-each_first : goal.invariant-each_first
invariant-each_first l =
    (length l.fronts ≡ 512) × ((j : ℕ) → j < l.k → take 64 (drop (j * 64) l.fronts) ≡ take 64 (text (slice_index l.firsts j) l.size l.pieces j))
