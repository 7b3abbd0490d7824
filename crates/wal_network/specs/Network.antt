-- A network: one ledger, and what each correct shard did at each prefix of it.
use Rattle.std.specs.Prelude.{◌≡◌, ◌≢◌, ℕ, zero, suc, ◌+◌, ◌<◌, ◌≤◌, Bool, true, false, cond}
use Rattle.std.specs.Prelude.{nat_eq, List, [], ◌∷◌, length, IsTrue}
use Rattle.std.specs.FinMap as finmap
use Rattle.wal_shape.specs.declared.metadata.BlobId.{BlobId}
use Rattle.wal_shape.specs.declared.axis.Side.TheVariants.{Now, Next}
use Rattle.wal_shape.specs.declared.shape.Format.{Format}
use Rattle.wal_shape.specs.Owners.{among, is_committee, is_ascending}
use Rattle.wal_event.specs.declared.event.Schedule.{Schedule}
use Rattle.wal_event.specs.Event.{IsSchedule}
use Rattle.wal_event.specs.declared.line.Line.TheVariants as line
use Rattle.wal_event.specs.declared.line.ForgetWord.TheVariants as forgetting
use Rattle.wal_ledger.specs.declared.entry.Body.{Body}
use Rattle.wal_ledger.specs.declared.entry.Body.TheVariants.{Register, Ack, Attest, Begin, Ready}
use Rattle.wal_ledger.specs.declared.entry.Body.TheVariants.{Finish}
use Rattle.wal_ledger.specs.declared.entry.Kind.{Kind}
use Rattle.wal_ledger.specs.declared.entry.Kind.TheVariants.{Holds, Denies}
use Rattle.wal_ledger.specs.Shards.{committee_size, quorum_size}
use Rattle.wal_ledger.specs.Ledger.{Log, is_moving, reading, writing, owners_of, same_node}
use Rattle.wal_ledger.specs.Ledger.{MustHold, ready_shards, ready_total, entered}
use Rattle.wal_ledger.specs.Answers.{MayRegister, IsOpen, MayClaim}
use Rattle.wal_store.specs.Contents.{Contents, parts_at}
use Rattle.wal_shard.specs.Holding.{settled}
use Rattle.wal_shard.specs.Vouching.{backs, without_dead}
use Rattle.wal_epoch.specs.Committee.{is_carried}
use Rattle.wal_protocol.specs.Rules.{Rules}
use Rattle.wal_network.specs.Deeds.{Done, last_held, ActsEach}

-- the ledger's start, and the entries that count, by their place; the faulty shards of each epoch's
-- committee, and those that stay when it is formed; and the deeds of each of its shards that are
-- spoken of, once it had applied so many entries: the shard's own list, cut where it applied the
-- next one
pub record Network : Type 0 where
  pub format : Format
  pub start : Log
  pub body : ℕ → Body
  pub faulty : ℕ → List ℕ
  pub stays : ℕ → List ℕ
  pub deeds : (at epoch shard : ℕ) → List Done

-- a prefix of the ledger
abbrev pub log_at : Network → ℕ → Log
log_at network zero = network.start
log_at network (suc at) = entered (log_at network at) (network.body at)

-- each committee so far has had at most f faulty shards
abbrev pub HasFew : Network → ℕ → Type 0
HasFew network at =
    (epoch : ℕ) → network.start.first ≤ epoch → epoch ≤ writing (log_at network at)
    → length (network.faulty epoch) ≤ network.start.f

-- whether a shard is carried to the committee that a Begin of these owners forms
abbrev pub is_moved : Network → ℕ → List ℕ → ℕ → Bool
is_moved network at owners shard =
    let log = log_at network at in
    is_carried (owners_of Now log) (network.faulty (reading log)) owners
    (network.faulty (writing log + 1)) (network.stays (writing log + 1)) shard

-- what applying an entry makes of what the shards of each epoch's committee hold: a Begin fills the
-- next committee, a Finish drops what is not live
abbrev pub applied : Network → ℕ → Body → (ℕ → ℕ → Contents) → ℕ → ℕ → Contents
applied network at (Begin owners) holds epoch shard =
    cond (nat_eq epoch (writing (log_at network at) + 1))
    (cond (is_moved network at owners shard) (holds (writing (log_at network at)) shard)
    finmap.empty) (holds epoch shard)
applied network at Finish holds epoch shard =
    without_dead (log_at network (suc at)) (holds epoch shard)
applied network at _ holds epoch shard = holds epoch shard

-- what the shard of an epoch's committee holds when it has applied so many entries, before its
-- deeds there
abbrev pub comes_with : Network → ℕ → ℕ → ℕ → Contents
comes_with network zero epoch shard = finmap.empty
comes_with network (suc at) epoch shard =
    applied network at (network.body at)
    (λ e s. last_held (network.deeds at e s) (comes_with network at e s)) epoch shard

-- and when it applies the next one
abbrev pub leaves_with : Network → ℕ → ℕ → ℕ → Contents
leaves_with network at epoch shard =
    last_held (network.deeds at epoch shard) (comes_with network at epoch shard)

-- whether the committee of an epoch is there: the one that serves, and the one that takes new blobs
pub data IsThere (log : Log) : ℕ → Type 0 where
  serves : IsThere log (reading log)
  writes : IsThere log (writing log)

-- with none of these deeds did the shard forget the blob; it may have declined to
abbrev pub Spares : ℕ → BlobId → List Done → Type 0
Spares shard id [] = Unit {0}
Spares shard id (done ∷ more) =
    (done.said ≢ line.Forget shard id forgetting.Done) × Spares shard id more

-- A CLAIM THAT LANDS is backed by a shard: at an earlier or equal prefix of the same writing epoch
-- the blob was open and the shard held what backs the claim; and if the claim is that it holds the
-- blob, it has not forgotten it since, until it applies the entry
pub record Vouched (network : Network) (to : ℕ) (kind : Kind) (id : BlobId) (shard : ℕ)
    : Type 0 where
  pub from : ℕ
  pub earlier : from ≤ to
  pub one_epoch : writing (log_at network from) ≡ writing (log_at network to)
  pub was_open : IsOpen (log_at network from) id
  pub held : backs kind
      (parts_at (leaves_with network from (writing (log_at network to)) shard) id) ≡ true
  pub spared : kind ≡ Holds → (at : ℕ) → from < at → at ≤ to
      → Spares shard id (network.deeds at (writing (log_at network to)) shard)

-- READINESS THAT LANDS is backed by a shard: at an earlier or equal prefix of the same change of
-- the epoch it was settled for all that had to be held
pub record WasReady (network : Network) (to : ℕ) (shard : ℕ) : Type 0 where
  pub from : ℕ
  pub earlier : from ≤ to
  pub one_epoch : writing (log_at network from) ≡ writing (log_at network to)
  pub moved : is_moving (log_at network from) ≡ true
  pub settles : (id : BlobId) → MustHold (log_at network from) id
      → settled (parts_at (leaves_with network from (writing (log_at network to)) shard) id) ≡ true

-- if a shard of the committee that writes is correct, this holds of each shard of its node
abbrev pub ForNode : Network → ℕ → ℕ → (ℕ → Type 0) → Type 0
ForNode network at shard P =
    let log = log_at network at in
    among (network.faulty (writing log)) shard ≡ false → (other : ℕ) → other < committee_size log.f
    → same_node (owners_of Next log) shard other ≡ true → P other

-- a claim counts where it lands, and is backed if its shard is correct
pub record ClaimLands (network : Network) (at : ℕ) (kind : Kind) (shard : ℕ) (id : BlobId)
    : Type 0 where
  pub in_range : shard < committee_size (log_at network at).f
  pub counts : MayClaim (log_at network at) kind shard id
  pub backed : ForNode network at shard (Vouched network at kind id)

-- an entry counts where it lands
abbrev pub Lands : Network → ℕ → Body → Type 0
Lands network at (Register id until) =
    MayRegister (log_at network at) id until × (until ≤ 65536)
Lands network at (Ack shard id) = ClaimLands network at Holds shard id
Lands network at (Attest shard id) = ClaimLands network at Denies shard id
Lands network at (Begin owners) =
    let log = log_at network at in
    (is_moving log ≡ false) × (reading log < 65535)
    × IsTrue (is_committee (committee_size log.f) owners (network.faulty (writing log + 1)))
    × IsTrue (is_ascending (committee_size log.f) (network.stays (writing log + 1)))
Lands network at (Ready shard) =
    let log = log_at network at in
    (shard < committee_size log.f) × (is_moving log ≡ true) × (ready_shards log shard ≡ false)
    × ForNode network at shard (WasReady network at)
Lands network at Finish =
    let log = log_at network at in
    (is_moving log ≡ true) × (quorum_size log.f ≤ ready_total log)

-- the start of the network as a schedule without events
abbrev pub schedule_of : Network → Schedule
schedule_of network = record {
  format = network.format;
  f = network.start.f;
  epoch = network.start.first;
  owners = network.start.owners;
  faulty = network.faulty network.start.first;
  events = [];
}

-- A NETWORK'S HISTORY up to a prefix of its ledger, of any length: correct shards act by what they
-- know, whole nodes are faulty or correct, and each entry counts where it lands. Nothing is said of
-- what faulty shards do, nor of the order of the deeds of different shards
pub record IsHistory (rules : Rules) (network : Network) (size : ℕ) : Type 0 where
  pub starts : network.start.entries ≡ []
  pub fits : IsSchedule (schedule_of network)
  pub sized : network.start.f ≡ rules.f
  pub acts : (at epoch shard : ℕ) → at ≤ size → IsThere (log_at network at) epoch
      → shard < committee_size rules.f → among (network.faulty epoch) shard ≡ false
      → ActsEach rules (log_at network at) shard (comes_with network at epoch shard)
      (network.deeds at epoch shard)
  pub lands : (at : ℕ) → at < size → Lands network at (network.body at)
  pub nodes : (at shard other : ℕ) → at ≤ size → shard < committee_size rules.f
      → other < committee_size rules.f
      → same_node (owners_of Next (log_at network at)) shard other ≡ true
      → among (network.faulty (writing (log_at network at))) other ≡ true
      → among (network.faulty (writing (log_at network at))) shard ≡ true
