use Rattle.wal_lanes.proofs.Common.{◌≡◌, ℕ, ◌+◌, ◌*◌, ◌<◌, length, take, drop, slice_index, IsRoundsAt, word_at, lane, words_of}
use Rattle.wal_lanes.proofs.block.compress.Given as goal

abbrev pub invariant-words : goal.invariant-words
invariant-words l =
    (length l.w ≡ 16) × ((i : ℕ) → i < l.i → (k : ℕ) → k < 8 → slice_index (words_of l.w k) i ≡ word_at l.bytes (l.at + 4 * i + k * l.stride))

abbrev pub invariant-turns : goal.invariant-turns
invariant-turns l =
    (k : ℕ) → k < 8 → IsRoundsAt (take 64 (drop (l.at + k * l.stride) l.bytes)) (lane l.fn.state k) (words_of l.w k) (lane l.s k) (16 * l.turn)
