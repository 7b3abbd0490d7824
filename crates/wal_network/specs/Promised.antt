-- What is promised of every history of a network, in the network's own words.
use Rattle.std.specs.Prelude.{◌≡◌, ◌≢◌, ◌⊎◌, ℕ, ◌+◌, ◌<◌, ◌≤◌, Bool, true, false, not, ◌&&◌}
use Rattle.std.specs.Prelude.{List, [], length, take, Option, Some, All, Contains}
use Rattle.wal_shape.specs.declared.metadata.BlobId.{BlobId}
use Rattle.wal_shape.specs.declared.axis.Axis.{Axis}
use Rattle.wal_shape.specs.declared.axis.Side.{Side}
use Rattle.wal_shape.specs.declared.axis.Side.TheVariants.{Now, Next}
use Rattle.wal_shape.specs.declared.shape.Format.{Format}
use Rattle.wal_shape.specs.Owners.{among}
use Rattle.wal_shape.specs.Shape.{BlobShape, most_bytes}
use Rattle.wal_evidence.specs.declared.evidence.Evidence.{Evidence}
use Rattle.wal_evidence.specs.declared.evidence.Verdict.{Verdict}
use Rattle.wal_extract.specs.Blobs.{HaveOneIdentifier}
use Rattle.wal_extract.specs.Contrary.{AreContrary, ContradictsBlob}
use Rattle.wal_frame.specs.Frame.{Frame}
use Rattle.wal_event.specs.declared.line.Line.TheVariants as line
use Rattle.wal_event.specs.declared.line.ReadWord.{ReadWord}
use Rattle.wal_event.specs.declared.line.RecoverWord.TheVariants as recovering
use Rattle.wal_ledger.specs.declared.entry.Kind.TheVariants.{Denies}
use Rattle.wal_ledger.specs.Shards.{committee_size, quorum_size, count_below}
use Rattle.wal_ledger.specs.Ledger.{Log, reading, writing, is_live, IsCertified, home_of}
use Rattle.wal_ledger.specs.Ledger.{signer_count}
use Rattle.wal_store.specs.Contents.{Contents, parts_at}
use Rattle.wal_shard.specs.Holding.{settled}
use Rattle.wal_protocol.specs.declared.first.First.{First}
use Rattle.wal_protocol.specs.declared.first.First.TheVariants.{Judged, Written}
use Rattle.wal_protocol.specs.Rules.{Rules}
use Rattle.wal_protocol.specs.State.{verdict_of}
use Rattle.wal_protocol.specs.Step.{told_by}
use Rattle.wal_protocol.specs.Total.{Possible, AreBytes}
use Rattle.wal_theorem.specs.Instance.{rules_of}
use Rattle.wal_network.specs.Deeds.{Done, last_held}
use Rattle.wal_network.specs.Network.{Network, log_at, comes_with, IsThere, IsHistory, HasFew}

-- the epoch of the committee of a side
abbrev pub epoch_in : Log → Side → ℕ
epoch_in log Now = reading log
epoch_in log Next = writing log

-- the epoch of the committee that answers for a blob
abbrev pub home_epoch : Log → BlobId → ℕ
home_epoch log id = epoch_in log (home_of log id)

-- what a shard holds at a prefix, once it has done so many of its deeds there
abbrev pub holds_after : Network → ℕ → ℕ → ℕ → ℕ → Contents
holds_after network at count epoch shard =
    last_held (take count (network.deeds at epoch shard)) (comes_with network at epoch shard)

-- the correct shards of an epoch's committee that are settled for a blob as soon as they have
-- applied a prefix, as a set
abbrev pub settled_at : Network → ℕ → ℕ → BlobId → (ℕ → Bool)
settled_at network at epoch id shard =
    not (among (network.faulty epoch) shard)
    && settled (parts_at (comes_with network at epoch shard) id)

-- KEPT: while each committee so far has had at most f faulty shards, more than f correct shards of
-- the committee that answers for a certified blob are settled for it, as soon as they have applied
-- the prefix at which it is certified
abbrev pub KeepsCertified : Network → ℕ → Type 0
KeepsCertified network size =
    (at : ℕ) (id : BlobId) → at ≤ size → HasFew network at → IsCertified (log_at network at) id
    → network.start.f + 1
    ≤ count_below (committee_size network.start.f)
    (settled_at network at (home_epoch (log_at network at) id) id)

-- the true reply of a shard of a committee was heard: it is of what the shard held at some moment at
-- a prefix of its own, not before `from`, while its committee was there
pub record IsHeardOf (rules : Rules) (network : Network) (size from epoch : ℕ) (id : BlobId)
    (payloads : List (List ℕ)) (shard : ℕ) : Type 0 where
  pub at : ℕ
  pub count : ℕ
  pub later : from ≤ at
  pub inside : at ≤ size
  pub there : IsThere (log_at network at) epoch
  pub said : (payload : List ℕ)
      → Contains
      (rules.read_reply id shard (parts_at (holds_after network at count epoch shard) id)) payload
      → Contains payloads payload

-- a read that ends with bytes or a rejection
abbrev pub HasVerdict : Rules → BlobId → List (List ℕ) → Type 0
HasVerdict rules id payloads =
    (word : ReadWord) × (evidence : Option Evidence) × (told : Verdict)
    × rules.Reads id payloads word evidence × (told_by word ≡ Some told)

-- a read of these payloads completes: a result that it has is bytes or a rejection, and it is
-- impossible that it has none, unless two metadata of the blob differ
pub record IsCompleteRead (rules : Rules) (id : BlobId) (payloads : List (List ℕ)) : Type 0 where
  pub each : (word : ReadWord) (evidence : Option Evidence)
      → rules.Reads id payloads word evidence → (told : Verdict) × (told_by word ≡ Some told)
  pub some : All AreBytes payloads
      → Possible (rules.HasTwoMetadata id payloads ⊎ HasVerdict rules id payloads)

-- COMPLETE: while each committee up to a prefix has had at most f faulty shards, a read of a blob
-- that is certified there completes, if it has heard of each correct shard of the committee that
-- then answered for the blob a reply that was true there or later, whenever that was, and whatever
-- else it heard
abbrev pub CompletesReads : Rules → Network → ℕ → Type 0
CompletesReads rules network size =
    (from : ℕ) (id : BlobId) (payloads : List (List ℕ)) → from ≤ size → HasFew network from
    → IsCertified (log_at network from) id
    → ((shard : ℕ) → shard < committee_size rules.f
    → among (network.faulty (home_epoch (log_at network from) id)) shard ≡ false
    → IsHeardOf rules network size from (home_epoch (log_at network from) id) id payloads shard)
    → IsCompleteRead rules id payloads

-- COMMITTED: a correct shard that recovered a sliver holds a metadata that the identifier commits,
-- and by it the bytes are its sliver, for any number of faulty shards
abbrev pub RecoversCommitted : Rules → Network → ℕ → Type 0
RecoversCommitted rules network size =
    (at epoch shard : ℕ) (done : Done) (axis : Axis) (id : BlobId) (bytes : List ℕ) → at ≤ size
    → IsThere (log_at network at) epoch → shard < committee_size rules.f
    → among (network.faulty epoch) shard ≡ false → Contains (network.deeds at epoch shard) done
    → done.said ≡ line.Recover shard axis id (recovering.Sliver bytes)
    → rules.CommitsTo id shard axis bytes (parts_at done.after id)

-- JUST: while each committee so far has had at most f faulty shards, more than f correct shards of
-- the committee that writes refute a live blob that a quorum of it attested, as soon as they have
-- applied the prefix at which it is invalid
abbrev pub RefutesInvalid : Rules → Network → ℕ → Type 0
RefutesInvalid rules network size =
    (at : ℕ) (id : BlobId) → at ≤ size → HasFew network at → is_live (log_at network at) id ≡ true
    → quorum_size network.start.f
    ≤ signer_count (log_at network at) id Denies (writing (log_at network at))
    → (refuters : ℕ → Bool)
    × (network.start.f + 1 ≤ count_below (committee_size network.start.f) refuters)
    × ((shard : ℕ) → shard < committee_size network.start.f → refuters shard ≡ true
    → (among (network.faulty (writing (log_at network at))) shard ≡ false)
    × rules.Refutes id
    (parts_at (comes_with network at (writing (log_at network at)) shard) id))

-- THE SAFE NETWORK
pub record IsSafeNetwork (rules : Rules) (network : Network) (size : ℕ) : Type 0 where
  pub kept : KeepsCertified network size
  pub complete : CompletesReads rules network size
  pub committed : RecoversCommitted rules network size
  pub just : RefutesInvalid rules network size

-- a completed answer for a blob, by what it rests on: of a read of payloads that were heard
-- anywhere and at any time, or of an honest write
pub data Answers (rules : Rules) (id : BlobId) : First → Type 0 where
  read : (payloads : List (List ℕ)) (word : ReadWord) (evidence : Evidence) (told : Verdict)
      → rules.Reads id payloads word (Some evidence) → told_by word ≡ Some told
      → Answers rules id (Judged evidence told)
  wrote : (format : Format) (blob : List ℕ) (message : ℕ → List Frame)
      → rules.IsMessage format blob id message → Answers rules id (Written blob)

-- the shape of a blob
abbrev pub shape_in : Format → ℕ → List ℕ → BlobShape
shape_in format f blob = record { format = format; f = f; length = length blob }

-- two answers contradict each other: what they rest on is what `evidences`, `blob_and_evidence` and
-- `blobs` of wal_extract take, and make two texts with one digest of
abbrev pub Contradict : (List ℕ → List ℕ) → ℕ → First → First → Type 0
Contradict digest f (Judged one told) (Judged other said) = AreContrary digest one other
Contradict digest f (Judged one told) (Written blob) =
    (format : Format) × ContradictsBlob digest (shape_in format f blob) blob one
Contradict digest f (Written blob) (Judged other said) =
    (format : Format) × ContradictsBlob digest (shape_in format f blob) blob other
Contradict digest f (Written blob) (Written other) =
    (format : Format) × (next : Format) × (blob ≢ other)
    × HaveOneIdentifier digest (shape_in format f blob) blob (shape_in next f other) other

-- READERS AGREE: of two completed answers for a blob that differ, what they rest on contradicts
-- itself. This holds for any number of faulty shards, and needs no ledger
abbrev pub AnswersAgree : (List ℕ → List ℕ) → ℕ → Type 0
AnswersAgree digest f =
    (id : BlobId) (one other : First) → Answers (rules_of digest f) id one
    → Answers (rules_of digest f) id other → verdict_of one ≢ verdict_of other
    → Contradict digest f one other

-- A BLOB CAN BE CERTIFIED: there is a history in which no shard is faulty, and a blob is certified
-- by the identifier that an honest writer's message has
abbrev pub CanCertify : Rules → Type 0
CanCertify rules =
    (format : Format) (blob : List ℕ) → length blob ≤ most_bytes → AreBytes blob
    → (id : BlobId) × (message : ℕ → List Frame) × rules.IsMessage format blob id message
    × (network : Network) × (size : ℕ) × IsHistory rules network size
    × ((epoch : ℕ) → network.faulty epoch ≡ []) × IsCertified (log_at network size) id
