use Rattle.std.specs.Prelude.{◌≡◌, ℕ, ◌+◌, List, [], ◌∷◌, ◌++◌, length, take, drop}
use Rattle.std.specs.List.{sum}

-- what copies of consecutive ranges of these sizes take, from a place on, one after another
abbrev pub copies : List ℕ → ℕ → List ℕ → List ℕ
copies bytes at [] = []
copies bytes at (size ∷ sizes) = take size (drop at bytes) ++ copies bytes (at + size) sizes

-- they are one copy of all the ranges
abbrev pub CopiesJoin : Type 0
CopiesJoin =
    (bytes : List ℕ) (at : ℕ) (sizes : List ℕ)
    → copies bytes at sizes ≡ take (sum sizes) (drop at bytes)

-- copies from the front on, of as many bytes as there are, make all the bytes
abbrev pub CopiesMakeAll : Type 0
CopiesMakeAll =
    (bytes : List ℕ) (sizes : List ℕ) → sum sizes ≡ length bytes → copies bytes 0 sizes ≡ bytes
