use Rattle.wal_lanes.proofs.Common.{◌≡◌, ℕ, ◌+◌, ◌*◌, ◌<◌, length, take, drop, digest_bytes, lane}
use Rattle.wal_lanes.proofs.strips.write_digests.Given as goal

abbrev pub invariant-each_lane : goal.invariant-each_lane
invariant-each_lane l =
    (length l.out ≡ length l.fn.out)
    × ((j : ℕ) → j < l.first → take 32 (drop (j * 32) l.out) ≡ take 32 (drop (j * 32) l.fn.out))
    × ((i : ℕ) → i < l.k → take 32 (drop ((l.first + i) * 32) l.out) ≡ digest_bytes (lane l.state i) 8)
