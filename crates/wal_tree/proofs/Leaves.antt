-- Leaf digests that lie one after the other, each in the place of its piece.
use Rattle.wal_tree.proofs.Common.{◌≡◌, ℕ, suc, ◌+◌, ◌*◌, ◌<◌, List, length, take, drop, get_or, refl, ap, ◌∙◌, arith, concat, drop-drop, empty_entry, leaf, leaves, pieces}
use Rattle.wal_tree.proofs.LevelPairs.{leaves-pieces}
use Rattle.wal_tree.proofs.Paths.{get_or-leaves, length-leaves}
use Rattle.wal_tree.proofs.Sizes.{All-leaves, length-concat, pieces-concat}

-- digests of which each is the leaf digest of its piece are the leaves
pub pieces-leaves : (digest : List ℕ → List ℕ) (count size : ℕ) (digests content : List ℕ) →
    ((k : ℕ) → k < count → take 32 (drop (32 * k) digests) ≡ leaf digest (take size (drop (size * k) content))) →
    pieces count 32 digests ≡ leaves digest count size content
pieces-leaves digest count size digests content each =
    leaves-pieces digest count size digests content (λ k below.
    let at : k * 32 ≡ 32 * k = omega arith in
    let place : size * k ≡ k * size = omega arith in
    ap (λ n. take 32 (drop n digests)) at ∙ each k below ∙ ap (λ n. leaf digest (take size (drop n content))) place)

-- a piece of a content
pub get_or-pieces : (count size k : ℕ) (content : List ℕ) → k < count → get_or (pieces count size content) k empty_entry ≡ take size (drop (size * k) content)
get_or-pieces (suc count) size (suc k) content below =
    let at : size + size * k ≡ size * suc k = omega arith in
    cc (get_or-pieces count size k (drop size content) (omega arith), drop-drop (size * k) size content)
get_or-pieces count size k content below = grind arith

module _ (digest : List ℕ → List ℕ) (size_is : (text : List ℕ) → length (digest text) ≡ 32) where
  -- joined leaf digests have 32 bytes for each piece
  pub length-joined : (count size : ℕ) (content : List ℕ) → length (concat (leaves digest count size content)) ≡ 32 * count
  length-joined count size content =
      length-concat 32 (leaves digest count size content) (All-leaves digest size_is count size content) ∙ ap (λ n. 32 * n) (length-leaves digest count size content)

  -- and each lies in the place of its piece
  pub joined_at : (count size k : ℕ) (content : List ℕ) → k < count →
      take 32 (drop (32 * k) (concat (leaves digest count size content))) ≡ leaf digest (take size (drop (size * k) content))
  joined_at count size k content below =
      let all = leaves digest count size content in
      let place : k * size ≡ size * k = omega arith in
      let long : k < length all = omega (arith, below, length-leaves digest count size content) in
      rw (← get_or-pieces (length all) 32 k (concat all) long, pieces-concat 32 all (All-leaves digest size_is count size content), get_or-leaves digest count size k content below, place) refl
