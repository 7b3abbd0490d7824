-- Facts on paths that do not depend on how they are computed.
use Rattle.wal_tree.proofs.Common.{◌≡◌, ℕ, zero, suc, ◌+◌, ◌*◌, ◌/◌, ◌^◌, ◌<◌, ◌≤◌, List, [], ◌∷◌, length, take, drop, refl, ap, ◌∙◌, arith, get_or, slice_index_or, add-one, inl, inr, cases_lt, drop-drop, empty_entry, leaf, leaves, node, pair_up, root_of, level_above, beside, height, height_within, path_of, path_within, width_of, ◌-◌, ◌++◌, sym, append_assoc, append-nil, concat, get_or_past, pieces, folded, parent}
use Rattle.wal_tree.proofs.Roots.{length-pair_up, root_of-pair_up, pieces-cons}

-- a level has half as many entries as the one below, rounded up
pub length-pair_up-half : (digest : List ℕ → List ℕ) (entries : List (List ℕ)) → length (pair_up digest entries) ≡ (length entries + 1) / 2
length-pair_up-half digest (a ∷ (b ∷ more)) = omega (arith, length-pair_up-half digest more)
length-pair_up-half digest _ = refl

-- what holds of one entry or none, and of a level where it does of the one above, holds of all levels
pub by_levels : (digest : List ℕ → List ℕ) (P : List (List ℕ) → Type 0) → ((entries : List (List ℕ)) → length entries ≤ 1 → P entries)
    → ((entries : List (List ℕ)) → 1 < length entries → P (pair_up digest entries) → P entries) → (n : ℕ) (entries : List (List ℕ)) → length entries ≤ n → P entries
by_levels digest P end step zero entries few = end entries (omega arith)
by_levels digest P end step (suc n) entries few = elim (cases_lt 1 (length entries)) [
  | inl many ↦ step entries many (by_levels digest P end step n (pair_up digest entries) (omega (arith, length-pair_up-half digest entries)))
  | inr one ↦ end entries one
]

-- the root over a level is that over the one above, and one entry is its own root
pub root_of-above : (digest : List ℕ → List ℕ) (entries : List (List ℕ)) → 1 < length entries → root_of digest entries ≡ root_of digest (pair_up digest entries)
root_of-above digest (a ∷ (b ∷ more)) many = root_of-pair_up digest a b more
root_of-above digest entries many = absurd (omega arith)

pub root_of-few : (digest : List ℕ → List ℕ) (entries : List (List ℕ)) → length entries ≤ 1 → root_of digest entries ≡ get_or entries 0 empty_entry
unfolding root_of
root_of-few digest entries few = grind arith

pub length-level_above : (digest : List ℕ → List ℕ) (levels : ℕ) (entries : List (List ℕ)) → length (level_above digest levels entries) ≡ width_of levels (length entries)
length-level_above digest zero entries = refl
length-level_above digest (suc levels) entries =
    length-pair_up-half digest (level_above digest levels entries) ∙ ap (λ n. (n + 1) / 2) (length-level_above digest levels entries)

-- each piece has a leaf
pub length-leaves : (digest : List ℕ → List ℕ) (count size : ℕ) (content : List ℕ) → length (leaves digest count size content) ≡ count
length-leaves digest zero size content = refl
length-leaves digest (suc count) size content = ap suc (length-leaves digest count size (drop size content))

-- the leaf of a piece
pub get_or-leaves : (digest : List ℕ → List ℕ) (count size i : ℕ) (content : List ℕ) → i < count →
    get_or (leaves digest count size content) i empty_entry ≡ leaf digest (take size (drop (i * size) content))
get_or-leaves digest (suc count) size (suc i) content below =
    let at : size + i * size ≡ suc i * size = omega arith in
    cc (get_or-leaves digest count size i (drop size content) (omega arith), drop-drop (i * size) size content)
get_or-leaves digest count size i content below = grind arith

-- an entry of a level is the parent of two of the level below, of which the second may be empty
pub get_or-pair_up : (digest : List ℕ → List ℕ) (entries : List (List ℕ)) (i j k : ℕ) → i < (length entries + 1) / 2 → j ≡ 2 * i → k ≡ 2 * i + 1 →
    get_or (pair_up digest entries) i empty_entry ≡ node digest (get_or entries j empty_entry) (get_or entries k empty_entry)
get_or-pair_up digest (a ∷ (b ∷ more)) (suc i) (suc (suc j)) (suc (suc k)) below ej ek =
    get_or-pair_up digest more i j k (omega arith) (omega arith) (omega arith)
get_or-pair_up digest entries i j k below ej ek = grind arith

-- more levels than leaves change nothing
height_within-enough : (m n count : ℕ) → count ≤ m → count ≤ n → height_within m count ≡ height_within n count
height_within-enough (suc m) (suc n) (suc (suc more)) hm hn =
    ap (λ k. k + 1) (height_within-enough m n ((suc (suc more) + 1) / 2) (omega arith) (omega arith))
height_within-enough m n count hm hn = grind arith

-- more than one leaf has one level more above it than its parents have
pub height-step : (count : ℕ) → 1 < count → height count ≡ height ((count + 1) / 2) + 1
unfolding height
height-step (suc (suc more)) many =
    ap (λ k. k + 1) (height_within-enough (suc more) ((suc (suc more) + 1) / 2) ((suc (suc more) + 1) / 2) (omega arith) (omega arith))
height-step count many = absurd (omega arith)

-- a tree over at most one leaf has height 0
pub height-end : (count : ℕ) → count ≤ 1 → height count ≡ 0
unfolding height
height-end count few = grind arith

height_within-le : (k n count : ℕ) → count ≤ 2 ^ k → height_within n count ≤ k
height_within-le (suc k) (suc n) (suc (suc more)) few =
    omega (arith, height_within-le k n ((suc (suc more) + 1) / 2) (omega arith))
height_within-le k n count few = grind arith

-- at most 2 ^ k leaves have at most k levels above them
pub height-le : (k count : ℕ) → count ≤ 2 ^ k → height count ≤ k
unfolding height
height-le k count few = height_within-le k count count few

-- more levels than entries change no path
path_within-enough : (digest : List ℕ → List ℕ) (m n place : ℕ) (entries : List (List ℕ)) → length entries ≤ m → length entries ≤ n → path_within digest m place entries ≡ path_within digest n place entries
path_within-enough digest (suc m) (suc n) place (a ∷ (b ∷ more)) hm hn =
    ap (λ (rest : List (List ℕ)). slice_index_or (a ∷ (b ∷ more)) (beside place) empty_entry ∷ rest)
    (path_within-enough digest m n (place / 2) (pair_up digest (a ∷ (b ∷ more))) (omega (arith, length-pair_up digest more)) (omega (arith, length-pair_up digest more)))
path_within-enough digest m n place entries hm hn = grind arith

-- the path from a place among two entries or more: its sibling, then the path from its parent
pub path_of-step : (digest : List ℕ → List ℕ) (entries : List (List ℕ)) (place : ℕ) → 1 < length entries →
    path_of digest entries place ≡ get_or entries (beside place) empty_entry ∷ path_of digest (pair_up digest entries) (place / 2)
unfolding path_of
path_of-step digest (a ∷ (b ∷ more)) place many =
    let up : List (List ℕ) = pair_up digest (a ∷ (b ∷ more)) in
    ap (λ (rest : List (List ℕ)). get_or (a ∷ (b ∷ more)) (beside place) empty_entry ∷ rest)
    (path_within-enough digest (suc (length more)) (length up) (place / 2) up (omega (arith, length-pair_up digest more)) (omega arith))
path_of-step digest entries place many = absurd (omega arith)

pub path_of-end : (digest : List ℕ → List ℕ) (entries : List (List ℕ)) (place : ℕ) → length entries ≤ 1 → path_of digest entries place ≡ []
unfolding path_of
path_of-end digest entries place few = grind arith

pub width-level_above : (digest : List ℕ → List ℕ) (levels count size : ℕ) (content : List ℕ) → length (level_above digest levels (leaves digest count size content)) ≡ width_of levels count
width-level_above digest levels count size content =
    length-level_above digest levels (leaves digest count size content) ∙ ap (width_of levels) (length-leaves digest count size content)

-- the level that stands one level higher
pub level_above-next : (digest : List ℕ → List ℕ) (levels up : ℕ) (entries : List (List ℕ)) → up ≡ levels + 1 → level_above digest up entries ≡ pair_up digest (level_above digest levels entries)
level_above-next digest levels up entries next = ap (λ k. level_above digest k entries) (next ∙ add-one levels)

pub width_of-next : (levels up count : ℕ) → up ≡ levels + 1 → width_of up count ≡ (width_of levels count + 1) / 2
width_of-next levels up count next = ap (λ k. width_of k count) (next ∙ add-one levels)

-- ---- What each turn of the loops over a path keeps, and what an entry is made of.

-- one more digest of a path leads to the parent
pub fold-step : (digest : List ℕ → List ℕ) (size place : ℕ) (sibling rest whole entry above : List ℕ) →
    0 < size → length sibling ≡ size → whole ≡ sibling ++ rest → above ≡ parent digest place entry sibling →
    folded digest place entry (pieces (length whole / size) size whole) ≡ folded digest (place / 2) above (pieces (length rest / size) size rest)
fold-step digest size place sibling rest whole entry above positive long is above_is =
    rw (pieces-cons size sibling rest whole positive long is, above_is) refl

-- one more sibling is written, and the path goes on from the parent
pub path-step : (digest : List ℕ → List ℕ) (entries : List (List ℕ)) (level at : ℕ) (old new sibling : List ℕ) →
    1 < length (level_above digest level entries) → sibling ≡ get_or (level_above digest level entries) (beside at) empty_entry → new ≡ old ++ sibling →
    old ++ concat (path_of digest (level_above digest level entries) at)
    ≡ new ++ concat (path_of digest (level_above digest (level + 1) entries) (at / 2))
path-step digest entries level at old new sibling many sibling_is new_is =
    let here = level_above digest level entries in
    rw (path_of-step digest here at many, ← sibling_is, new_is, level_above-next digest level (level + 1) entries refl)
    (sym (append_assoc old sibling (concat (path_of digest (pair_up digest here) (at / 2)))))

-- at the root there is no sibling left
pub path-end : (digest : List ℕ → List ℕ) (entries : List (List ℕ)) (at : ℕ) (out whole : List ℕ) →
    length entries ≤ 1 → whole ≡ out ++ concat (path_of digest entries at) → out ≡ whole
path-end digest entries at out whole few is =
    sym (is ∙ ap (λ (p : List (List ℕ)). out ++ concat p) (path_of-end digest entries at few) ∙ append-nil out)

module _ (digest : List ℕ → List ℕ) (level count size i : ℕ) (content : List ℕ) where
  -- past the end of a level there is the empty entry
  pub entry-past : (width : ℕ) → width ≡ width_of level count → width ≤ i →
      empty_entry ≡ get_or (level_above digest level (leaves digest count size content)) i empty_entry
  entry-past width width_is past =
      sym (get_or_past (level_above digest level (leaves digest count size content)) i empty_entry (omega (arith, width-level_above digest level count size content)))

  -- an entry of a higher level is the parent of two of the level below
  pub entry-node : (width below : ℕ) (left right : List ℕ) → width ≡ width_of level count → i < width → level ≡ below + 1 →
      left ≡ get_or (level_above digest below (leaves digest count size content)) (2 * i) empty_entry →
      right ≡ get_or (level_above digest below (leaves digest count size content)) (2 * i + 1) empty_entry →
      node digest left right ≡ get_or (level_above digest level (leaves digest count size content)) i empty_entry
  entry-node width below left right width_is within next left_is right_is =
      let under = level_above digest below (leaves digest count size content) in
      let wide = width-level_above digest below count size content in
      let up = width_of-next below level count next in
      let made = get_or-pair_up digest under i (2 * i) (2 * i + 1) (omega arith) refl refl in
      rw (left_is, right_is, level_above-next digest below level (leaves digest count size content) next) (sym made)

-- an entry of the lowest level is the leaf of its piece
pub entry-leaf : (digest : List ℕ → List ℕ) (level count size i width : ℕ) (content : List ℕ) → level ≡ 0 → width ≡ width_of level count → i < width →
    leaf digest (take ((i + 1) * size - i * size) (drop (i * size) content))
    ≡ get_or (level_above digest level (leaves digest count size content)) i empty_entry
entry-leaf digest zero count size i width content lowest width_is within =
    let one : (i + 1) * size - i * size ≡ size = omega arith in
    ap (λ k. leaf digest (take k (drop (i * size) content))) one ∙ sym (get_or-leaves digest count size i content (omega arith))
entry-leaf digest (suc level) count size i width content lowest width_is within = absurd (omega arith)
