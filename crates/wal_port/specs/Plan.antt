-- Plans of failing calls.
use Rattle.std.specs.Prelude.{ℕ, List, Contains}

-- a plan is a list of numbers of calls: the call of this number fails, the first call having the
-- number 1
abbrev pub FailsAt : List ℕ → ℕ → Type 0
FailsAt plan number = Contains plan number
