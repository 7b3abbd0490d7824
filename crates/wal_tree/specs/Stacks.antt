-- The stacks of many trees that take their leaves at the same time, one tree for each row: the
-- entries of a level lie in one column, 32 bytes for each row.
use Rattle.std.specs.Prelude.{◌≡◌, ℕ, zero, suc, ◌*◌, List, [], ◌∷◌, ◌++◌, Option, Some, None, drop}
use Rattle.std.specs.Prelude.{map, take}
use Rattle.wal_tree.specs.Tree.{root_of}
use Rattle.wal_tree.specs.Stack.{climb}

-- the entry of a row in a column
abbrev pub entry_of : ℕ → List ℕ → List ℕ
entry_of row column = take 32 (drop (row * 32) column)

-- the entry of a row in an optional column
abbrev pub held_entry : ℕ → Option (List ℕ) → Option (List ℕ)
held_entry row None = None
held_entry row (Some column) = Some (entry_of row column)

-- the stack of one row, given the columns of the levels
abbrev pub row_stack : ℕ → List (Option (List ℕ)) → List (Option (List ℕ))
row_stack row levels = map (held_entry row) levels

-- what a caller sees of the stacks: the number of rows, and the columns of the levels
pub record StacksState : Type 0 where
  pub rows : ℕ
  pub levels : List (Option (List ℕ))

-- the levels, with the lowest `count` of them emptied
abbrev pub emptied : ℕ → List (Option (List ℕ)) → List (Option (List ℕ))
emptied zero levels = levels
emptied (suc count) [] = []
emptied (suc count) (column ∷ more) = None ∷ emptied count more

-- some of the lowest levels were lost, and the others are as they were
abbrev pub HaveLost : List (Option (List ℕ)) → List (Option (List ℕ)) → Type 0
HaveLost old new = (count : ℕ) × (new ≡ emptied count old)

-- the stack stands for these entries: whatever is still to come, it leads to the root over both
abbrev pub StandsFor : (List ℕ → List ℕ) → List (Option (List ℕ)) → List (List ℕ) → Type 0
StandsFor digest stack entries =
    (coming : List (List ℕ)) → climb digest stack coming ≡ root_of digest (entries ++ coming)
