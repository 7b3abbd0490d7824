-- A binary hash tree over the pieces of a text: its leaves, its levels and its root, over any
-- digest.
use Rattle.std.specs.Prelude.{ℕ, zero, suc, ◌/◌, List, [], ◌∷◌, ◌++◌, length, map, take, drop}
use Rattle.std.specs.Prelude.{replicate}

-- the digest of a leaf with this content
abbrev pub leaf : (List ℕ → List ℕ) → List ℕ → List ℕ
leaf digest content = digest (0 ∷ content)

-- the digest of an inner node with these two children
abbrev pub node : (List ℕ → List ℕ) → List ℕ → List ℕ → List ℕ
node digest left right = digest (1 ∷ (left ++ right))

-- the entry that completes a level of odd length
abbrev pub empty_entry : List ℕ
empty_entry = replicate 32 0

-- the level above these entries: neighbours are paired, the last one of an odd number with the
-- empty entry
abbrev pub pair_up : (List ℕ → List ℕ) → List (List ℕ) → List (List ℕ)
pair_up digest [] = []
pair_up digest (first ∷ []) = node digest first empty_entry ∷ []
pair_up digest (first ∷ (second ∷ more)) = node digest first second ∷ pair_up digest more

-- the one entry that is left when levels are paired until one has a single entry, within this many
-- levels
abbrev pub root_within : (List ℕ → List ℕ) → ℕ → List (List ℕ) → List ℕ
root_within digest levels [] = empty_entry
root_within digest levels (first ∷ []) = first
root_within digest zero (first ∷ (second ∷ more)) = empty_entry
root_within digest (suc levels) (first ∷ (second ∷ more)) =
    root_within digest levels (pair_up digest (first ∷ (second ∷ more)))

-- the root over these leaf digests; there are never more levels than leaves
unfoldable pub root_of : (List ℕ → List ℕ) → List (List ℕ) → List ℕ
root_of digest entries = root_within digest (length entries) entries

-- the first `count` pieces of `size` bytes
abbrev pub pieces : ℕ → ℕ → List ℕ → List (List ℕ)
pieces zero size content = []
pieces (suc count) size content = take size content ∷ pieces count size (drop size content)

-- the leaf digests of those pieces
abbrev pub leaves : (List ℕ → List ℕ) → ℕ → ℕ → List ℕ → List (List ℕ)
leaves digest count size content = map (leaf digest) (pieces count size content)

-- the root over content of whole pieces of `size` bytes
abbrev pub root_over : (List ℕ → List ℕ) → ℕ → List ℕ → List ℕ
root_over digest size content = root_of digest (leaves digest (length content / size) size content)
