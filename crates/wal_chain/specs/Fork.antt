-- Two chains that part, and shards that vote on one of them.
use Rattle.std.specs.Prelude.{◌≡◌, ◌≢◌, ◌⊎◌, ℕ, ◌+◌, ◌<◌, ◌≤◌, true, false, List, [], ◌∷◌}
use Rattle.std.specs.Prelude.{take, Contains, ⊤}
use Rattle.wal_ledger.specs.Shards.{count_below, committee_size}
use Rattle.wal_chain.specs.Chain.{Post, Seal, AreAllowed, IsSeenOn}
use Rattle.wal_chain.specs.Votes.{Seats, is_vote}

-- two chains part at a place: they are the same before it, and not with it
pub record IsFork (place : ℕ) (one other : List Post) : Type 0 where
  pub common : take place one ≡ take place other
  pub apart : take (place + 1) one ≢ take (place + 1) other

-- a post was made after another: for a chain that has what both had seen, and it had seen no less
pub record IsMadeAfter (seal : Seal) (last next : Post) : Type 0 where
  pub grows : last.seen ≤ next.seen
  pub chain : List Post
  pub allowed : AreAllowed seal chain
  pub has_last : IsSeenOn seal chain last
  pub has_next : IsSeenOn seal chain next

-- each post was made after the one before it
abbrev pub AreInTurn : Seal → Post → List Post → Type 0
AreInTurn seal last [] = ⊤
AreInTurn seal last (next ∷ posts) = IsMadeAfter seal last next × AreInTurn seal next posts

-- the node of a shard made all its posts with votes that stand on two chains one after the other
pub record IsSteadfast (seal : Seal) (seats : Seats)
    (one other : List Post) (shard : ℕ) : Type 0 where
  pub first : Post
  pub others : List Post
  pub in_turn : AreInTurn seal first others
  pub all : (post : Post) → Contains one post ⊎ Contains other post
      → is_vote seats shard post ≡ true → Contains (first ∷ others) post

-- at most f shards of the committee are faulty, and the others are steadfast
pub record IsSound (seal : Seal) (seats : Seats) (one other : List Post) : Type 0 where
  pub few : count_below (committee_size seats.f) seats.faulty ≤ seats.f
  pub steadfast : (shard : ℕ) → shard < committee_size seats.f → seats.faulty shard ≡ false
      → IsSteadfast seal seats one other shard
