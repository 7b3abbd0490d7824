-- Sets of shards, as tests, and how many shards below a number pass.
use Rattle.std.specs.Prelude.{ℕ, zero, suc, ◌+◌, ◌*◌, Bool, cond}
use Rattle.wal_shape.specs.Shape.{shard_count}

-- how many of the n shards from 0 on pass
abbrev pub count_below : ℕ → (ℕ → Bool) → ℕ
count_below zero passes = 0
count_below (suc n) passes = count_below n passes + cond (passes n) 1 0

-- the number of shards of a committee of which at most f are faulty
abbrev pub committee_size : ℕ → ℕ
committee_size f = shard_count f

-- the size of a quorum, which contains more than half of the correct shards
abbrev pub quorum_size : ℕ → ℕ
quorum_size f = 2 * f + 1
