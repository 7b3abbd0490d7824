use Rattle.wal_lanes.proofs.Common.{◌≡◌, ℕ, ◌+◌, ◌*◌, ◌<◌, length, take, drop}
use Rattle.wal_lanes.proofs.texts.after_block.Given as goal

abbrev pub invariant-each_block : goal.invariant-each_block
invariant-each_block l =
    (length l.copies ≡ 512) × ((j : ℕ) → j < l.k → take 64 (drop (j * 64) l.copies) ≡ take 64 (drop (l.place + j * l.size) l.pieces))
