-- Paths from a leaf to the root: the siblings on the way, and what they lead to.
use Rattle.std.specs.Prelude.{◌≡◌, ◌≢◌, ◌⊎◌, ℕ, zero, suc, ◌+◌, ◌-◌, ◌*◌, ◌/◌, ◌%◌, ◌<◌, List, []}
use Rattle.std.specs.Prelude.{◌∷◌, ◌++◌, length, take, drop, if◌then◌else◌, ◌==◌, slice_index_or}
use Rattle.std.specs.List.{concat}
use Rattle.wal_tree.specs.Tree.{empty_entry, leaf, leaves, node, pair_up, pieces}

-- the place beside this one, under one parent
abbrev pub beside : ℕ → ℕ
beside place = if place % 2 == 0 then place + 1 else place - 1

-- the parent of the entry at this place and its sibling
abbrev pub parent : (List ℕ → List ℕ) → ℕ → List ℕ → List ℕ → List ℕ
parent digest place entry sibling =
    if place % 2 == 0 then node digest entry sibling else node digest sibling entry

-- how many times this many entries are paired until one is left, within this many levels
abbrev pub height_within : ℕ → ℕ → ℕ
height_within levels zero = 0
height_within levels (suc zero) = 0
height_within zero (suc (suc more)) = 0
height_within (suc levels) (suc (suc more)) = height_within levels ((suc (suc more) + 1) / 2) + 1

-- how many levels stand above `count` leaves: the number of digests in a path
unfoldable pub height : ℕ → ℕ
height count = height_within count count

-- the siblings of this place and of those above it, from the leaf upwards, within this many levels
abbrev pub path_within : (List ℕ → List ℕ) → ℕ → ℕ → List (List ℕ) → List (List ℕ)
path_within digest levels place [] = []
path_within digest levels place (first ∷ []) = []
path_within digest zero place (first ∷ (second ∷ more)) = []
path_within digest (suc levels) place (first ∷ (second ∷ more)) =
    slice_index_or (first ∷ (second ∷ more)) (beside place) empty_entry
    ∷ path_within digest levels (place / 2) (pair_up digest (first ∷ (second ∷ more)))

-- the siblings from the leaf at this place to the root over these entries
unfoldable pub path_of : (List ℕ → List ℕ) → List (List ℕ) → ℕ → List (List ℕ)
path_of digest entries place = path_within digest (length entries) place entries

-- the bytes of the path from the piece at this place to the root over content of whole pieces of
-- `size` bytes
abbrev pub path_over : (List ℕ → List ℕ) → ℕ → List ℕ → ℕ → List ℕ
path_over digest size content place =
    concat (path_of digest (leaves digest (length content / size) size content) place)

-- the entry that these siblings lead to from the entry at this place
abbrev pub folded : (List ℕ → List ℕ) → ℕ → List ℕ → List (List ℕ) → List ℕ
folded digest place entry [] = entry
folded digest place entry (sibling ∷ more) =
    folded digest (place / 2) (parent digest place entry sibling) more

-- the bytes of a path lead from the leaf with this content, at this place of `count`, to the root
pub record IsPathTo (digest : List ℕ → List ℕ) (root : List ℕ)
    (count place : ℕ) (content path : List ℕ) : Type 0 where
  pub within : place < count
  pub long : length path ≡ 32 * height count
  pub leads : folded digest place (leaf digest content) (pieces (height count) 32 path) ≡ root

-- paths lead from these two leaves, at one place of `count`, to one root
pub record LeadToOneRoot (digest : List ℕ → List ℕ) (count place : ℕ)
    (leaf_a path_a leaf_b path_b : List ℕ) : Type 0 where
  pub root : List ℕ
  pub left : IsPathTo digest root count place leaf_a path_a
  pub right : IsPathTo digest root count place leaf_b path_b

-- ---- where two ways up meet

-- the text whose digest is the parent of the entry at this place and its sibling
abbrev pub parent_text : ℕ → List ℕ → List ℕ → List ℕ
parent_text place entry sibling =
    1 ∷ (if place % 2 == 0 then entry ++ sibling else sibling ++ entry)

-- left and right are the texts, of those digested on the ways up from two entries at one place
-- along these siblings, of the lowest level at which the digests agree
abbrev pub MeetAbove : (List ℕ → List ℕ) → ℕ → List ℕ → List (List ℕ) → List ℕ → List (List ℕ)
    → List ℕ → List ℕ → Type 0
MeetAbove digest place one (sibling ∷ more_one) other (other_sibling ∷ more_other) left right =
    ((digest one ≡ digest other) × (left ≡ one) × (right ≡ other))
    ⊎ ((digest one ≢ digest other)
    × MeetAbove digest (place / 2) (parent_text place (digest one) sibling)
    more_one (parent_text place (digest other) other_sibling) more_other left right)
MeetAbove digest place one siblings_x other siblings_y left right =
    (digest one ≡ digest other) × (left ≡ one) × (right ≡ other)

-- left and right are the texts of two leaves with these contents, at one place, if their digests
-- agree, and else those of the lowest level of their paths at which the digests agree
abbrev pub MeetOnPaths : (List ℕ → List ℕ) → ℕ → List ℕ → List ℕ → List ℕ → List ℕ → List ℕ → List ℕ
    → Type 0
MeetOnPaths digest place content_a path_a content_b path_b left right =
    MeetAbove digest place (0 ∷ content_a) (pieces (length path_a / 32) 32 path_a)
    (0 ∷ content_b) (pieces (length path_b / 32) 32 path_b) left right

-- left and right are the texts in which the paths of the first piece of `size` bytes that differs
-- in two contents meet
abbrev pub MeetInTrees : (List ℕ → List ℕ) → ℕ → List ℕ → List ℕ → List ℕ → List ℕ → Type 0
MeetInTrees digest size first second left right =
    (place : ℕ) × (place < length first / size)
    × (take (place * size) first ≡ take (place * size) second)
    × (take size (drop (place * size) first) ≢ take size (drop (place * size) second))
    × MeetOnPaths digest place (take size (drop (place * size) first))
    (path_over digest size first place)
    (take size (drop (place * size) second)) (path_over digest size second place) left right
