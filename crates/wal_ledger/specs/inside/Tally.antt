-- Claims of one kind that nodes make about one identifier, counted by their shards, and links
-- between their entries.
use Rattle.std.specs.Prelude.{◌≡◌, ℕ, ◌+◌, ◌<◌, ◌≤◌, Bool, true, false, cond, nat_eq, nat_le, List}
use Rattle.std.specs.Prelude.{[], ◌∷◌, ◌++◌, length, All, Option, Some, None, slice_get}
use Rattle.wal_ledger.specs.declared.entry.Entry.{Entry}
use Rattle.wal_ledger.specs.declared.entry.Body.{Body}
use Rattle.wal_ledger.specs.declared.entry.Body.TheVariants.{Ack, Attest}
use Rattle.wal_ledger.specs.declared.entry.Kind.{Kind}
use Rattle.wal_ledger.specs.declared.entry.Kind.TheVariants.{Holds, Denies}
use Rattle.wal_ledger.specs.declared.tally.Quorum.{Quorum}
use Rattle.wal_ledger.specs.declared.tally.Tally.{Tally}
use Rattle.wal_ledger.specs.Shards.{count_below, committee_size, quorum_size}
use Rattle.wal_ledger.specs.Ledger.{same_node, is_signer_among}
use Rattle.wal_ledger.specs.inside.Claims.{count_among, IsLeastQuorum}
use Rattle.wal_ledger.specs.Within.{IsWithin}
use Rattle.wal_shape.specs.Owners.{has_neighbour}

-- whether an entry makes a claim of this kind by this very shard
abbrev pub signs : Kind → ℕ → Body → Bool
signs Holds shard (Ack signer id) = nat_eq signer shard
signs Denies shard (Attest signer id) = nat_eq signer shard
signs _ _ _ = false

-- a link is one more than the place of an entry by which a shard signs, and that place has a link
-- to one before it
pub record IsLinked (entries : List Entry) (links : List ℕ)
    (kind : Kind) (link shard before : ℕ) : Type 0 where
  pub place : ℕ
  pub entry : Entry
  pub follows : link ≡ place + 1
  pub found : slice_get entries place ≡ Some entry
  pub signed : signs kind shard entry.body ≡ true
  pub linked : slice_get links place ≡ Some before
  pub earlier : before ≤ place

-- the shards that sign by the entries from a link on, down the links; the link 0 ends the chain
abbrev pub Chain : List Entry → List ℕ → Kind → ℕ → List ℕ → Type 0
Chain entries links kind link [] = link ≡ 0
Chain entries links kind link (shard ∷ shards) =
    (before : ℕ)
    × (IsLinked entries links kind link shard before × Chain entries links kind before shards)

-- a link leads down to the end
abbrev pub HasChain : List Entry → List ℕ → Kind → ℕ → Type 0
HasChain entries links kind link = (shards : List ℕ) × Chain entries links kind link shards

-- no epoch has a quorum, or the one kept is the least
abbrev pub HasLeast : ℕ → (ℕ → List ℕ) → List Entry → Kind → Option Quorum → Type 0
HasLeast f owners own kind None = (epoch : ℕ) → count_among f owners own kind epoch < quorum_size f
HasLeast f owners own kind (Some quorum) = IsLeastQuorum f owners own kind quorum.epoch quorum.count

-- a tally is right for own entries and the owners of each epoch: its epoch is the last in which
-- some node signed (0 if none did), its count is how many shards these nodes run, and its link
-- leads to entries by shards of exactly these nodes
pub record IsTally (f : ℕ) (owners : ℕ → List ℕ) (own : List Entry) (kind : Kind)
    (entries : List Entry) (links : List ℕ) (tally : Tally) : Type 0 where
  pub shards : List ℕ
  pub chain : Chain entries links kind tally.last shards
  pub members : (shard : ℕ)
      → has_neighbour (owners tally.epoch) shards shard
      ≡ is_signer_among (owners tally.epoch) own kind tally.epoch shard
  pub counted : tally.count ≡ count_among f owners own kind tally.epoch
  pub idle : tally.count ≡ 0 → tally.epoch ≡ 0
  pub later : (epoch shard : ℕ) → tally.epoch < epoch
      → is_signer_among (owners epoch) own kind epoch shard ≡ false
  pub least : HasLeast f owners own kind tally.quorum

-- what a tally tells of whatever it is right for
abbrev pub Tells : Tally → (ℕ → (ℕ → List ℕ) → List Entry → Kind → Type 0) → Type 0
Tells tally Fact =
    (f : ℕ) (owners : ℕ → List ℕ) (own : List Entry)
    (kind : Kind) (entries : List Entry) (links : List ℕ)
    → IsTally f owners own kind entries links tally → Fact f owners own kind

-- the empty tally
abbrev pub no_tally : Tally
no_tally = record { epoch = 0; count = 0; last = 0; quorum = None }

-- the link of one more entry in an epoch
abbrev pub link_in : ℕ → Tally → ℕ
link_in epoch tally = cond (nat_eq tally.epoch epoch) tally.last 0

-- the least quorum after a count of the last epoch
abbrev pub quorum_after : ℕ → ℕ → ℕ → Option Quorum → Option Quorum
quorum_after f epoch count None =
    cond (nat_le (quorum_size f) count) (Some (record { epoch = epoch; count = count })) None
quorum_after f epoch count (Some quorum) =
    Some (cond (nat_eq quorum.epoch epoch) (record { epoch = epoch; count = count }) quorum)

-- the tally after one more node, of `size` shards, signed in the last epoch so far, by an entry at
-- a place
abbrev pub tally_after : ℕ → ℕ → ℕ → ℕ → Tally → Tally
tally_after f epoch place size tally =
    let count = cond (nat_eq tally.epoch epoch) tally.count 0 + size in
    record {
      epoch = epoch;
      count = count;
      last = place + 1;
      quorum = quorum_after f epoch count tally.quorum;
    }

-- how many shards the node of a shard runs
abbrev pub node_size : ℕ → List ℕ → ℕ → ℕ
node_size f owners shard = count_below (committee_size f) (same_node owners shard)

-- an entry by which a shard of a committee signs, for the first time for its node in its epoch,
-- which is the last so far
pub record IsFirstClaim (f first : ℕ) (owners : List ℕ) (own : List Entry)
    (kind : Kind) (shard : ℕ) (made : Entry) : Type 0 where
  pub below : shard < committee_size f
  pub signed : signs kind shard made.body ≡ true
  pub first_time : is_signer_among owners own kind made.epoch shard ≡ false
  pub latest : All (IsWithin first made.epoch) own

-- the new tally is right if the old one was, after one more first claim in an epoch by a node of
-- `size` shards, entered at a place with its link
abbrev pub Grows : ℕ → ℕ → ℕ → ℕ → Tally → Tally → Type 0
Grows f epoch place size old new =
    (first shard : ℕ) (owners : ℕ → List ℕ) (own : List Entry)
    (kind : Kind) (entries : List Entry) (links : List ℕ) (made : Entry)
    → IsTally f owners own kind entries links old
    → IsFirstClaim f first (owners made.epoch) own kind shard made → made.epoch ≡ epoch
    → size ≡ node_size f (owners epoch) shard
    → length entries ≡ place → length links ≡ place
    → IsTally f owners (own ++ made ∷ []) kind
    (entries ++ made ∷ []) (links ++ link_in epoch old ∷ []) new
