-- What serves private functions and proofs beside Path.
use Rattle.std.specs.Prelude.{ℕ, zero, suc, ◌+◌, ◌/◌}

-- how many entries stand this many levels above `count` leaves
abbrev pub width_of : ℕ → ℕ → ℕ
width_of zero count = count
width_of (suc levels) count = (width_of levels count + 1) / 2
