use Rattle.wal_fft.proofs.Common.{ℕ, ◌-◌, ◌^◌, ◌≤◌}
use Rattle.wal_fft.proofs.levels.level_of.Given as goal

abbrev pub invariant-loop-level : goal.invariant-loop-level
invariant-loop-level l = (l.level ≤ 10) × ((n : ℕ) → l.total ≤ 2 ^ n → l.level ≤ n)

abbrev pub decreases-loop-level : goal.decreases-loop-level
decreases-loop-level l = 10 - l.level
