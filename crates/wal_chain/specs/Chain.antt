-- Chains of posts, the head of each, and when a post counts on a chain.
use Rattle.std.specs.Prelude.{◌≡◌, ℕ, ◌<◌, ◌≤◌, Bool, true, List, [], ◌∷◌, Some, length, take}
use Rattle.std.specs.Prelude.{fold, slice_get, All, ⊤}
use Rattle.wal_tree.specs.Digests.{IsByte}
use Rattle.wal_tree.specs.Collision.{IsCollision}
use Rattle.wal_ledger.specs.declared.entry.Entry.{Entry}

-- what a post says: an entry of the ledger, or that a shard of this epoch's committee agrees to the
-- change of the epoch
pub data Word : Type 0 where
  enters : Entry → Word
  agrees : (epoch shard : ℕ) → Word

-- a post: the node whose post it is, how many posts of the chain this had seen, the head of these,
-- what it says, and whatever else it carries
pub record Post : Type 0 where
  pub by : ℕ
  pub seen : ℕ
  pub head : List ℕ
  pub says : List Word
  pub rest : List ℕ

-- which posts a chain may have, and how heads are made: the head of no posts, which lists can be
-- heads, the text over a head and one more post, and a digest
pub record Seal : Type 0 where
  pub is_allowed : Post → Bool
  pub start : List ℕ
  pub is_head : List ℕ → Bool
  pub text : List ℕ → Post → List ℕ
  pub digest : List ℕ → List ℕ

-- heads are made from heads, texts over them are of bytes, and two that are the same are over the
-- same head and the same post
pub record IsPlain (seal : Seal) : Type 0 where
  pub first : seal.is_head seal.start ≡ true
  pub more : (head : List ℕ) (post : Post) → seal.is_head head ≡ true → seal.is_allowed post ≡ true
      → seal.is_head (seal.digest (seal.text head post)) ≡ true
  pub bytes : (head : List ℕ) (post : Post) → seal.is_head head ≡ true → seal.is_allowed post ≡ true
      → All IsByte (seal.text head post)
  pub exact : (head other : List ℕ) (post next : Post) → seal.is_head head ≡ true
      → seal.is_head other ≡ true → seal.is_allowed post ≡ true → seal.is_allowed next ≡ true
      → seal.text head post ≡ seal.text other next → (head ≡ other) × (post ≡ next)

-- a chain has no other posts than it may have
abbrev pub AreAllowed : Seal → List Post → Type 0
AreAllowed seal [] = ⊤
AreAllowed seal (post ∷ posts) = (seal.is_allowed post ≡ true) × AreAllowed seal posts

-- the head of a chain: with each post, the digest of the text over the head so far and this post
abbrev pub chain_head : Seal → List Post → List ℕ
chain_head seal chain =
    fold (λ head post. seal.digest (seal.text head post)) seal.start chain

-- two different texts have one digest
abbrev pub IsBroken : Seal → Type 0
IsBroken seal = (left : List ℕ) × (right : List ℕ) × IsCollision seal.digest left right

-- what the poster had seen is on this chain
pub record IsSeenOn (seal : Seal) (chain : List Post) (post : Post) : Type 0 where
  pub within : post.seen ≤ length chain
  pub same : chain_head seal (take post.seen chain) ≡ post.head

-- a post counts on a chain as a vote on what stands at a place: the post stands on the chain, and
-- its poster had seen that place, no post from its own on, and nothing that is not on this chain
pub record Counts (seal : Seal) (chain : List Post) (place : ℕ) (post : Post) : Type 0 where
  pub at : ℕ
  pub stands : slice_get chain at ≡ Some post
  pub behind : post.seen ≤ at
  pub informed : place < post.seen
  pub same : chain_head seal (take post.seen chain) ≡ post.head
