-- Slivers that are committed under one root.
use Rattle.std.specs.Prelude.{◌≡◌, ℕ, ◌*◌, ◌%◌, ◌≤◌, List, length}
use Rattle.wal_shape.specs.declared.axis.Axis.{Axis}
use Rattle.wal_shape.specs.Shape.{most_bytes, sliver_symbols, symbol_size}
use Rattle.wal_tree.specs.Path.{MeetInTrees}
use Rattle.wal_tree.specs.Tree.{root_over}
use Rattle.wal_matrix.specs.Word.{IsWordOf}

-- both are as long as a sliver of the axis with symbols of one even size, from 2 to that of the
-- longest blob, and their codewords have one root
pub record HaveOneRoot (digest : List ℕ → List ℕ) (f : ℕ)
    (axis : Axis) (one other : List ℕ) : Type 0 where
  pub size : ℕ
  pub even : size % 2 ≡ 0
  pub least : 2 ≤ size
  pub most : size ≤ symbol_size f most_bytes
  pub long_a : length one ≡ sliver_symbols axis f * size
  pub long_b : length other ≡ sliver_symbols axis f * size
  pub word_a : List ℕ
  pub word_b : List ℕ
  pub is_a : IsWordOf axis f size one word_a
  pub is_b : IsWordOf axis f size other word_b
  pub root : root_over digest size word_a ≡ root_over digest size word_b

-- left and right are the texts that meet in the trees over the codewords of two slivers of this
-- axis, of symbols of one size
abbrev pub AreDigestedForSlivers : (List ℕ → List ℕ) → ℕ → Axis → List ℕ → List ℕ → List ℕ → List ℕ
    → Type 0
AreDigestedForSlivers digest f axis one other left right =
    (size : ℕ) × (word_a : List ℕ) × (word_b : List ℕ) × IsWordOf axis f size one word_a
    × IsWordOf axis f size other word_b
    × MeetInTrees digest size word_a word_b left right
