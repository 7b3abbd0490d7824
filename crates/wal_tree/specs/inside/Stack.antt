-- What serves private functions and proofs beside Stack.
use Rattle.std.specs.Prelude.{ℕ, ◌+◌, ◌*◌, List, [], ◌∷◌, Option, Some, None}

-- how many leaves the stack stands for: each level counts twice the one below
abbrev pub weight : List (Option (List ℕ)) → ℕ
weight [] = 0
weight (None ∷ more) = 2 * weight more
weight (Some first ∷ more) = 1 + 2 * weight more
