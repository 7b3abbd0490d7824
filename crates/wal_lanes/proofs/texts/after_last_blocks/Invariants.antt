use Rattle.wal_lanes.proofs.Common.{◌≡◌, ℕ, ◌*◌, ◌<◌, length, take, drop, slice_index, last_blocks, text}
use Rattle.wal_lanes.proofs.texts.after_last_blocks.Given as goal

abbrev pub invariant-each_tail : goal.invariant-each_tail
invariant-each_tail l =
    (length l.tails ≡ 1024) × ((j : ℕ) → j < l.k → take l.long (drop (j * l.long) l.tails) ≡ last_blocks l.seen (text (slice_index l.firsts j) l.size l.pieces j))
