-- What serves private functions and proofs beside Tree.
use Rattle.std.specs.Prelude.{ℕ, zero, suc, List}
use Rattle.wal_tree.specs.Tree.{pair_up}

-- the level that stands this many levels above these entries
abbrev pub level_above : (List ℕ → List ℕ) → ℕ → List (List ℕ) → List (List ℕ)
level_above digest zero entries = entries
level_above digest (suc levels) entries = pair_up digest (level_above digest levels entries)
