-- What a quorum of a committee decides on a chain.
use Rattle.std.specs.Prelude.{◌≡◌, ℕ, ◌<◌, ◌≤◌, Bool, true, false, ◌&&◌, nat_eq, nat_lt, List, All}
use Rattle.std.specs.Prelude.{Contains, Some, slice_get, ⊤}
use Rattle.std.specs.List.{list_any}
use Rattle.wal_shape.specs.declared.metadata.BlobId.{BlobId}
use Rattle.wal_shape.specs.Owners.{node_of}
use Rattle.wal_ledger.specs.declared.entry.Entry.{Entry}
use Rattle.wal_ledger.specs.declared.entry.Body.{Body}
use Rattle.wal_ledger.specs.declared.entry.Body.TheVariants.{Register, Ack, Attest, Begin}
use Rattle.wal_ledger.specs.declared.entry.Body.TheVariants.{Ready}
use Rattle.wal_ledger.specs.declared.entry.Kind.{Kind}
use Rattle.wal_ledger.specs.declared.entry.Kind.TheVariants.{Holds, Denies}
use Rattle.wal_ledger.specs.Shards.{count_below, committee_size, quorum_size}
use Rattle.wal_ledger.specs.Ledger.{Log, phase, writing, owners_at, own_entries, same_node}
use Rattle.wal_ledger.specs.Ledger.{signer_count, ready_total}
use Rattle.wal_ledger.specs.Kept.{IsLawful}
use Rattle.wal_chain.specs.Chain.{Word, Post, Seal, Counts}
use Rattle.wal_chain.specs.Chain.Word.{enters, agrees}

-- the committee of an epoch: the number of faults, the epoch, the node of each shard, and which
-- shards are faulty
pub record Seats : Type 0 where
  pub f : ℕ
  pub epoch : ℕ
  pub owners : List ℕ
  pub faulty : ℕ → Bool

-- whether a number is that of a shard of the committee that the node of this shard runs
abbrev pub is_shared : Seats → ℕ → ℕ → Bool
is_shared seats shard signer =
    nat_lt signer (committee_size seats.f) && same_node seats.owners signer shard

-- whether an entry is by a shard of this shard's node: that it holds a blob, denies it, or is ready
abbrev pub speaks_for : Seats → ℕ → Body → Bool
speaks_for seats shard (Ack signer id) = is_shared seats shard signer
speaks_for seats shard (Attest signer id) = is_shared seats shard signer
speaks_for seats shard (Ready signer) = is_shared seats shard signer
speaks_for seats shard _ = false

-- whether a word is a vote of this shard's node in the committee
abbrev pub votes_for : Seats → ℕ → Word → Bool
votes_for seats shard (enters entry) =
    nat_eq entry.epoch seats.epoch && speaks_for seats shard entry.body
votes_for seats shard (agrees epoch signer) =
    nat_eq epoch seats.epoch && is_shared seats shard signer

-- whether a post is of this shard's node, and has such a vote
abbrev pub is_vote : Seats → ℕ → Post → Bool
is_vote seats shard post =
    nat_eq post.by (node_of seats.owners shard) && list_any (votes_for seats shard) post.says

-- votes by a quorum of the committee count on a chain for what stands at a place
pub record HasVotes (seal : Seal) (seats : Seats) (chain : List Post) (place : ℕ) : Type 0 where
  pub shards : ℕ → Bool
  pub quorum : quorum_size seats.f ≤ count_below (committee_size seats.f) shards
  pub each : (shard : ℕ) → shard < committee_size seats.f → shards shard ≡ true
      → (post : Post) × Counts seal chain place post × (is_vote seats shard post ≡ true)

-- whether an entry claims this of a blob
abbrev pub is_claim : Kind → Body → Bool
is_claim Holds (Ack shard id) = true
is_claim Denies (Attest shard id) = true
is_claim _ _ = false

-- whether it says that a shard is ready
abbrev pub is_ready : Body → Bool
is_ready (Ready shard) = true
is_ready _ = false

-- an entry is by a shard of the committee, and this node runs it
abbrev pub IsBy : Seats → ℕ → Body → Type 0
IsBy seats node (Ack shard id) =
    (shard < committee_size seats.f) × (node ≡ node_of seats.owners shard)
IsBy seats node (Attest shard id) =
    (shard < committee_size seats.f) × (node ≡ node_of seats.owners shard)
IsBy seats node (Ready shard) =
    (shard < committee_size seats.f) × (node ≡ node_of seats.owners shard)
IsBy seats node _ = ⊤

-- each vote of the committee among entries that is of this sort is said by a post of its node that
-- counts on a chain for what stands at a place
abbrev pub AreOn : Seal → Seats → List Post → ℕ → (Body → Bool) → List Entry → Type 0
AreOn seal seats chain place sort entries =
    All (λ entry. entry.epoch ≡ seats.epoch → sort entry.body ≡ true
    → (post : Post) × Counts seal chain place post × Contains post.says (enters entry)
    × IsBy seats post.by entry.body)
    entries

-- the post at a place of a chain makes this entry
pub record IsMadeAt (chain : List Post) (place : ℕ) (body : Body) : Type 0 where
  pub post : Post
  pub stands : slice_get chain place ≡ Some post
  pub entry : Entry
  pub says : Contains post.says (enters entry)
  pub makes : entry.body ≡ body

-- the committee is the ledger's for its epoch
pub record AreSeatsOf (seats : Seats) (log : Log) : Type 0 where
  pub faults : log.f ≡ seats.f
  pub owned : owners_at log seats.epoch ≡ seats.owners

-- a committee has decided about what stands at a place of a chain: of a blob that is registered
-- there a quorum holds it, or denies it; for the change of the epoch that begins there a quorum of
-- the next committee is ready; or a quorum voted on it in any way, as on agreeing to the change
pub data HasDecided (seal : Seal) (seats : Seats) (chain : List Post) (place : ℕ) : Type 0 where
  claimed : (log : Log) (id : BlobId) (until : ℕ) (kind : Kind)
      → IsMadeAt chain place (Register id until) → AreSeatsOf seats log
      → AreOn seal seats chain place (is_claim kind) (own_entries log id)
      → quorum_size log.f ≤ signer_count log id kind seats.epoch
      → HasDecided seal seats chain place
  readied : (log : Log) → IsMadeAt chain place (Begin seats.owners) → AreSeatsOf seats log
      → IsLawful log → writing log ≡ seats.epoch
      → AreOn seal seats chain place is_ready (phase log).since
      → quorum_size log.f ≤ ready_total log
      → HasDecided seal seats chain place
  voted : HasVotes seal seats chain place → HasDecided seal seats chain place
