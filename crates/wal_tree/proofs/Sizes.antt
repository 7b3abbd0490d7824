-- The sizes of digests in a tree, and pieces of a text that was joined from pieces of one size.
use Rattle.wal_tree.proofs.Common.{◌≡◌, ℕ, suc, ◌*◌, ◌/◌, List, [], ◌∷◌, ◌++◌, length, get_or, refl, ap, arith, length-append, inl, inr, All, concat, take-append_seam, drop-append_seam, cases_lt, get_or_past, All-nil, All-cons, All-head, All-tail, All-map, empty_entry, leaf, leaves, node, pair_up, pieces, root_of, root_over, root_within, beside, path_of}
use Rattle.wal_tree.proofs.Paths.{by_levels, path_of-end, path_of-step}

-- the list has the size of a digest
abbrev pub IsDigest : List ℕ → Type 0
IsDigest d = length d ≡ 32

-- an entry, or the empty one past the end, is a digest
pub length-get_or : (entries : List (List ℕ)) (k : ℕ) → All IsDigest entries → length (get_or entries k empty_entry) ≡ 32
length-get_or entries k all = elim (cases_lt k (length entries)) [
  | inl within ↦ all k empty_entry within
  | inr past ↦ ap length (get_or_past entries k empty_entry past)
]

module _ (digest : List ℕ → List ℕ) (size_is : (text : List ℕ) → length (digest text) ≡ 32) where
  -- each entry of a level above is a digest
  pub All-pair_up : (entries : List (List ℕ)) → All IsDigest (pair_up digest entries)
  All-pair_up [] = All-nil IsDigest
  All-pair_up (a ∷ []) = All-cons IsDigest (node digest a empty_entry) [] (size_is (1 ∷ (a ++ empty_entry))) (All-nil IsDigest)
  All-pair_up (a ∷ (b ∷ more)) = All-cons IsDigest (node digest a b) (pair_up digest more) (size_is (1 ∷ (a ++ b))) (All-pair_up more)

  -- each leaf is a digest
  pub All-leaves : (count size : ℕ) (content : List ℕ) → All IsDigest (leaves digest count size content)
  All-leaves count size content =
      All-map IsDigest (leaf digest) (pieces count size content) (λ k d within. size_is (0 ∷ get_or (pieces count size content) k d))

  length-root_within : (levels : ℕ) (entries : List (List ℕ)) → All IsDigest entries → length (root_within digest levels entries) ≡ 32
  length-root_within levels (a ∷ []) all = All-head IsDigest a [] all
  length-root_within (suc levels) (a ∷ (b ∷ more)) all = length-root_within levels (pair_up digest (a ∷ (b ∷ more))) (All-pair_up (a ∷ (b ∷ more)))
  length-root_within levels entries all = refl

  -- the root over digests is a digest
  pub length-root_of : (entries : List (List ℕ)) → All IsDigest entries → length (root_of digest entries) ≡ 32
  unfolding root_of
  length-root_of entries all = length-root_within (length entries) entries all

  -- the root over a content has 32 bytes
  pub length-root_over : (size : ℕ) (content : List ℕ) → length (root_over digest size content) ≡ 32
  length-root_over size content = length-root_of (leaves digest (length content / size) size content) (All-leaves (length content / size) size content)

  -- each entry of a path is a digest
  pub All-path_of : (entries : List (List ℕ)) (place : ℕ) → All IsDigest entries → All IsDigest (path_of digest entries place)
  All-path_of entries place all =
      by_levels digest (λ es. (place : ℕ) → All IsDigest es → All IsDigest (path_of digest es place))
      (λ es few place all. rw (path_of-end digest es place few) (All-nil IsDigest))
      (λ es many rest place all. rw (path_of-step digest es place many)
      (All-cons IsDigest (get_or es (beside place) empty_entry) (path_of digest (pair_up digest es) (place / 2)) (length-get_or es (beside place) all) (rest (place / 2) (All-pair_up es))))
      (length entries) entries (omega arith) place all

-- texts of one size, joined
pub length-concat : (size : ℕ) (xs : List (List ℕ)) → All (λ (x : List ℕ). length x ≡ size) xs → length (concat xs) ≡ size * length xs
length-concat size [] all = omega arith
length-concat size (x ∷ xs) all =
    let head : length x ≡ size = All-head (λ (y : List ℕ). length y ≡ size) x xs all in
    let rest = length-concat size xs (All-tail (λ (y : List ℕ). length y ≡ size) x xs all) in
    omega (arith, length-append x (concat xs))

-- and taken apart again
pub pieces-concat : (size : ℕ) (xs : List (List ℕ)) → All (λ (x : List ℕ). length x ≡ size) xs → pieces (length xs) size (concat xs) ≡ xs
pieces-concat size [] all = refl
pieces-concat size (x ∷ xs) all =
    let head : length x ≡ size = All-head (λ (y : List ℕ). length y ≡ size) x xs all in
    let rest = pieces-concat size xs (All-tail (λ (y : List ℕ). length y ≡ size) x xs all) in
    cc (take-append_seam x (concat xs), drop-append_seam x (concat xs), rest)
