-- A stack of pending entries, one place for each level of a tree, lowest level first: what a pass
-- over the leaves keeps of those that it has seen.
use Rattle.std.specs.Prelude.{ℕ, List, [], ◌∷◌, ◌++◌, Option, Some, None}
use Rattle.wal_tree.specs.Tree.{node, pair_up, root_of}

-- an optional entry, as a list
abbrev pub entries : Option (List ℕ) → List (List ℕ)
entries None = []
entries (Some entry) = entry ∷ []

-- the root over the leaves that the stack stands for and the entries that are still to come
abbrev pub climb : (List ℕ → List ℕ) → List (Option (List ℕ)) → List (List ℕ) → List ℕ
climb digest [] coming = root_of digest coming
climb digest (lowest ∷ []) coming = root_of digest (entries lowest ++ coming)
climb digest (lowest ∷ (next ∷ more)) coming =
    climb digest (next ∷ more) (pair_up digest (entries lowest ++ coming))

-- the stack after one more entry, which moves up while its place is taken, as a carry does
abbrev pub pushed : (List ℕ → List ℕ) → List (Option (List ℕ)) → List ℕ → List (Option (List ℕ))
pushed digest [] entry = Some entry ∷ []
pushed digest (None ∷ more) entry = Some entry ∷ more
pushed digest (Some left ∷ more) entry = None ∷ pushed digest more (node digest left entry)
