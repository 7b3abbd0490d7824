-- The root and the siblings of a path, by the levels of a tree.
use Rattle.wal_tree.proofs.Common.{◌≡◌, ℕ, zero, suc, ◌*◌, ◌/◌, ◌^◌, ◌<◌, List, ◌∷◌, length, take, drop, get_or, refl, ap, sym, ◌∙◌, arith, concat, div-div-eq-div-mul, pow-succ', empty_entry, leaves, pair_up, root_of, level_above, beside, height, path_of, path_over}
use Rattle.wal_tree.proofs.Honest.{length-path_of}
use Rattle.wal_tree.proofs.Leaves.{get_or-pieces}
use Rattle.wal_tree.proofs.Paths.{by_levels, root_of-above, root_of-few, height-end, height-step, length-leaves, length-pair_up-half, path_of-end, path_of-step}
use Rattle.wal_tree.proofs.Sizes.{All-leaves, All-path_of, pieces-concat}

-- a level above the level above is one level higher
pub level_above-pair_up : (digest : List ℕ → List ℕ) (levels : ℕ) (entries : List (List ℕ)) → level_above digest levels (pair_up digest entries) ≡ level_above digest (suc levels) entries
level_above-pair_up digest zero entries = refl
level_above-pair_up digest (suc levels) entries = ap (pair_up digest) (level_above-pair_up digest levels entries)

-- the root is the entry of the level that stands the tree's height above its leaves
pub root_of-level : (digest : List ℕ → List ℕ) (entries : List (List ℕ)) → root_of digest entries ≡ get_or (level_above digest (height (length entries)) entries) 0 empty_entry
root_of-level digest entries =
    by_levels digest (λ es. root_of digest es ≡ get_or (level_above digest (height (length es)) es) 0 empty_entry)
    (λ es few. rw (height-end (length es) few) (root_of-few digest es few))
    (λ es many rest.
    let high : suc (height (length (pair_up digest es))) ≡ height (length es) = omega (arith, ap height (length-pair_up-half digest es), height-step (length es) many) in
    cc (root_of-above digest es many, rest, level_above-pair_up digest (height (length (pair_up digest es))) es))
    (length entries) entries (omega arith)

-- half of a place, so many times, is the place by that power of two
halves : (k place : ℕ) → place / 2 / 2 ^ k ≡ place / 2 ^ (suc k)
halves k place = div-div-eq-div-mul place 2 (2 ^ k) ∙ ap (λ m. place / m) (sym (pow-succ' 2 k))

-- sibling k of a path is the entry of level k beside the place that stands there above the path's place
pub path_of-level : (digest : List ℕ → List ℕ) (k place : ℕ) (entries : List (List ℕ)) → k < length (path_of digest entries place) →
    get_or (path_of digest entries place) k empty_entry ≡ get_or (level_above digest k entries) (beside (place / 2 ^ k)) empty_entry
path_of-level digest zero place (a ∷ (b ∷ more)) within =
    let here = a ∷ (b ∷ more) in
    let same : place ≡ place / 2 ^ 0 = omega arith in
    rw (path_of-step digest here place (omega arith)) (ap (λ n. get_or here (beside n) empty_entry) same)
path_of-level digest (suc k) place (a ∷ (b ∷ more)) within =
    let here = a ∷ (b ∷ more) in
    let up = pair_up digest here in
    let step = path_of-step digest here place (omega arith) in
    rw (step, ← halves k place, ← level_above-pair_up digest k here) (path_of-level digest k (place / 2) up (omega (arith, ap length step)))
path_of-level digest k place entries within =
    absurd (omega (arith, ap length (path_of-end digest entries place (omega arith))))

-- and it fills the bytes of the path from 32 k on
pub path_over-level : (digest : List ℕ → List ℕ) (size_is : (text : List ℕ) → length (digest text) ≡ 32) (size place k : ℕ) (content : List ℕ) → k < height (length content / size) →
    take 32 (drop (32 * k) (path_over digest size content place))
    ≡ get_or (level_above digest k (leaves digest (length content / size) size content)) (beside (place / 2 ^ k)) empty_entry
path_over-level digest size_is size place k content within =
    let count = length content / size in
    let entries = leaves digest count size content in
    let siblings = path_of digest entries place in
    let high : length siblings ≡ height count = length-path_of digest entries place ∙ ap height (length-leaves digest count size content) in
    sym (get_or-pieces (length siblings) 32 k (concat siblings) (omega arith))
    ∙ ap (λ (ps : List (List ℕ)). get_or ps k empty_entry) (pieces-concat 32 siblings (All-path_of digest size_is entries place (All-leaves digest size_is count size content)))
    ∙ path_of-level digest k place entries (omega arith)
