-- The path of a place leads from its leaf to the root.
use Rattle.wal_tree.proofs.Common.{◌≡◌, ℕ, ◌+◌, ◌-◌, ◌*◌, ◌/◌, ◌%◌, ◌<◌, List, length, take, drop, get_or, ap, sym, ◌∙◌, arith, inl, inr, concat, cases_lt, empty_entry, leaves, pair_up, root_of, root_over, beside, folded, height, IsPathTo, parent, path_of}
use Rattle.wal_tree.proofs.Paths.{by_levels, root_of-above, root_of-few, get_or-leaves, get_or-pair_up, height-end, height-step, length-leaves, length-pair_up-half, path_of-end, path_of-step}
use Rattle.wal_tree.proofs.Sizes.{All-leaves, All-path_of, length-concat, pieces-concat}

-- an entry and its sibling have the parent that stands above them
pub parent-pair_up : (digest : List ℕ → List ℕ) (entries : List (List ℕ)) (place : ℕ) → place < length entries →
    parent digest place (get_or entries place empty_entry) (get_or entries (beside place) empty_entry)
    ≡ get_or (pair_up digest entries) (place / 2) empty_entry
parent-pair_up digest entries place within = elim (cases_lt (place % 2) 1) [
  | inl low ↦ let even : place % 2 ≡ 0 = omega arith in
      rw even (sym (get_or-pair_up digest entries (place / 2) place (place + 1) (omega arith) (omega arith) (omega arith)))
  | inr high ↦ let odd : place % 2 ≡ 1 = omega arith in
      rw odd (sym (get_or-pair_up digest entries (place / 2) (place - 1) place (omega arith) (omega arith) (omega arith)))
]

-- the path of a place leads from its entry to the root
pub path_of-leads : (digest : List ℕ → List ℕ) (entries : List (List ℕ)) (place : ℕ) → place < length entries →
    folded digest place (get_or entries place empty_entry) (path_of digest entries place) ≡ root_of digest entries
path_of-leads digest entries place within =
    by_levels digest (λ es. (place : ℕ) → place < length es → folded digest place (get_or es place empty_entry) (path_of digest es place) ≡ root_of digest es)
    (λ es few place within. let lowest : place ≡ 0 = omega arith in
    ap (folded digest place (get_or es place empty_entry)) (path_of-end digest es place few) ∙ ap (λ k. get_or es k empty_entry) lowest ∙ sym (root_of-few digest es few))
    (λ es many rest place within.
    ap (folded digest place (get_or es place empty_entry)) (path_of-step digest es place many)
    ∙ ap (λ (e : List ℕ). folded digest (place / 2) e (path_of digest (pair_up digest es) (place / 2))) (parent-pair_up digest es place within)
    ∙ rest (place / 2) (omega (arith, length-pair_up-half digest es)) ∙ sym (root_of-above digest es many))
    (length entries) entries (omega arith) place within

-- a path has one digest for each level above the leaves
pub length-path_of : (digest : List ℕ → List ℕ) (entries : List (List ℕ)) (place : ℕ) → length (path_of digest entries place) ≡ height (length entries)
length-path_of digest entries place =
    by_levels digest (λ es. (place : ℕ) → length (path_of digest es place) ≡ height (length es))
    (λ es few place. ap length (path_of-end digest es place few) ∙ sym (height-end (length es) few))
    (λ es many rest place. omega (arith, ap length (path_of-step digest es place many), rest (place / 2), ap height (length-pair_up-half digest es), height-step (length es) many))
    (length entries) entries (omega arith) place

-- the path that `path` writes is one that `path_holds` accepts
pub IsPathTo-path_of : (digest : List ℕ → List ℕ) (size_is : (text : List ℕ) → length (digest text) ≡ 32) (size place : ℕ) (content : List ℕ) → place < length content / size →
    IsPathTo digest (root_over digest size content) (length content / size) place (take size (drop (place * size) content))
    (concat (path_of digest (leaves digest (length content / size) size content) place))
IsPathTo-path_of digest size_is size place content within =
    let count = length content / size in
    let entries = leaves digest (length content / size) size content in
    let siblings = path_of digest (leaves digest (length content / size) size content) place in
    let all = All-path_of digest size_is entries place (All-leaves digest size_is count size content) in
    let high : length siblings ≡ height count = length-path_of digest entries place ∙ ap height (length-leaves digest count size content) in
    let wide = length-leaves digest count size content in
    record {
      within = within;
      long = length-concat 32 siblings all ∙ ap (λ n. 32 * n) high;
      leads = rw (← high, pieces-concat 32 siblings all, ← get_or-leaves digest count size place content within) (path_of-leads digest entries place (omega arith));
    }
