-- What the steps of the world need from the crates below.
use Rattle.std.specs.Prelude.{◌≡◌, ℕ, ◌+◌, ◌<◌, ◌≤◌, Bool, true, is_some, List, Option, Some, None}
use Rattle.std.specs.Prelude.{Contains}
use Rattle.wal_shape.specs.declared.metadata.BlobId.{BlobId}
use Rattle.wal_shape.specs.declared.axis.Axis.{Axis}
use Rattle.wal_shape.specs.declared.axis.Axis.TheVariants.{Primary, Secondary}
use Rattle.wal_shape.specs.declared.shape.Format.{Format}
use Rattle.wal_evidence.specs.declared.evidence.Evidence.{Evidence}
use Rattle.wal_evidence.specs.declared.evidence.Verdict.{Verdict}
use Rattle.wal_frame.specs.Frame.{Frame}
use Rattle.wal_event.specs.declared.line.ReadWord.{ReadWord}
use Rattle.wal_event.specs.declared.line.RecoverWord.{RecoverWord}
use Rattle.wal_event.specs.declared.line.RecoverWord.TheVariants as recovering
use Rattle.wal_ledger.specs.Shards.{count_below, committee_size, quorum_size}
use Rattle.wal_shape.specs.declared.part.Part.{Part}
use Rattle.wal_store.specs.Parts.{Parts, no_parts, part_of}
use Rattle.wal_store.specs.Contents.{Contents, parts_at}
use Rattle.wal_ledger.specs.Ledger.{Log}
use Rattle.wal_shard.specs.declared.answers.PutAnswer.{PutAnswer}
use Rattle.wal_shard.specs.Holding.{settled, has_proof}
use Rattle.wal_protocol.specs.declared.first.First.TheVariants.{Judged, Written}
use Rattle.wal_protocol.specs.Rules.{Rules}
use Rattle.wal_protocol.specs.Step.{told_by}

-- each part that was held is held, with the same bytes
abbrev pub IsAbove : Parts → Parts → Type 0
IsAbove old new =
    (part : Part) (bytes : List ℕ) → part_of old part ≡ Some bytes → part_of new part ≡ Some bytes

abbrev pub AreAbove : Contents → Contents → Type 0
AreAbove old new = (id : BlobId) → IsAbove (parts_at old id) (parts_at new id)

-- all that a shard holds is sound
abbrev pub AllSound : Rules → ℕ → Contents → Type 0
AllSound rules shard contents = (id : BlobId) → rules.IsSound id shard (parts_at contents id)

-- a holding without its slivers
abbrev pub forgotten : Parts → Parts
forgotten parts = record parts { primary = None; secondary = None }

-- all of these payloads are among those
abbrev pub AreAmong : List (List ℕ) → List (List ℕ) → Type 0
AreAmong some payloads = (payload : List ℕ) → Contains some payload → Contains payloads payload

-- a shard that is sound and settled replied to a reader
pub record RepliedTo (rules : Rules) (id : BlobId) (payloads : List (List ℕ))
    (shard : ℕ) (parts : Parts) : Type 0 where
  pub sound : rules.IsSound id shard parts
  pub settles : settled parts ≡ true
  pub replied : AreAmong (rules.read_reply id shard parts) payloads

-- a shard that is sound replied to one that recovers its sliver of an axis
pub record Helped (rules : Rules) (id : BlobId) (axis : Axis) (shard : ℕ)
    (payloads : List (List ℕ)) (helper : ℕ) (parts : Parts) : Type 0 where
  pub sound : rules.IsSound id helper parts
  pub reply : List (List ℕ)
  pub symbols : rules.IsSymbolReply id helper parts axis shard reply
  pub replied : AreAmong reply payloads

-- the recovery gave a sliver or found that the symbols are inconsistent
abbrev pub IsDecidedBy : RecoverWord → Type 0
IsDecidedBy (recovering.Sliver bytes) = Unit {0}
IsDecidedBy recovering.Inconsistent = Unit {0}
IsDecidedBy _ = ⊥

-- or found a proof
abbrev pub IsSettledBy : RecoverWord → Type 0
IsSettledBy recovering.Proof = Unit {0}
IsSettledBy word = IsDecidedBy word

pub record Laws (rules : Rules) : Type 0 where
  -- an empty holding is sound, and a put, a recovery or forgetting keeps a sound one sound
  pub nothing_sound : (id : BlobId) (shard : ℕ) → rules.IsSound id shard no_parts
  pub put_sound : (log : Log) (shard : ℕ) (old new : Contents) (frame : Frame) (answer : PutAnswer)
      → rules.Puts log shard old frame answer new
      → AllSound rules shard old → AllSound rules shard new
  pub recover_sound : (id : BlobId) (shard : ℕ) (axis : Axis)
      (old new : Contents) (payloads : List (List ℕ)) (word : RecoverWord)
      → rules.Recovers id shard axis old payloads word new
      → (rules.ContradictsHeld id (parts_at old id) payloads → ⊥) → AllSound rules shard old
      → AllSound rules shard new
  pub forget_sound : (id : BlobId) (shard : ℕ) (parts : Parts) → rules.IsSound id shard parts
      → rules.IsSound id shard (forgotten parts)
  -- a put and a recovery keep what was held
  pub put_adds : (log : Log) (shard : ℕ) (old new : Contents) (frame : Frame) (answer : PutAnswer)
      → rules.Puts log shard old frame answer new → AreAbove old new
  pub recover_adds : (id : BlobId) (shard : ℕ) (axis : Axis)
      (old new : Contents) (payloads : List (List ℕ)) (word : RecoverWord)
      → rules.Recovers id shard axis old payloads word new → AreAbove old new
  -- a recovered sliver is committed
  pub recover_commits : (id : BlobId) (shard : ℕ) (axis : Axis)
      (old new : Contents) (payloads : List (List ℕ)) (bytes : List ℕ)
      → rules.Recovers id shard axis old payloads (recovering.Sliver bytes) new
      → (rules.ContradictsHeld id (parts_at old id) payloads → ⊥) → AllSound rules shard old
      → rules.CommitsTo id shard axis bytes (parts_at new id)
  -- a sound holding with a proof refutes the blob
  pub refutes : (id : BlobId) (shard : ℕ) (parts : Parts) → rules.IsSound id shard parts
      → has_proof parts ≡ true → rules.Refutes id parts
  -- completed reads and honest writes rest on something
  pub read_backed : (id : BlobId) (payloads : List (List ℕ))
      (word : ReadWord) (evidence : Evidence) (told : Verdict)
      → rules.Reads id payloads word (Some evidence) → told_by word ≡ Some told
      → rules.IsBacked id (Judged evidence told)
  pub write_backed : (format : Format) (blob : List ℕ) (id : BlobId) (message : ℕ → List Frame)
      → rules.IsMessage format blob id message → rules.IsBacked id (Written blob)
  -- a read that has the replies of more than f settled shards completes
  pub read_completes : (id : BlobId) (payloads : List (List ℕ))
      (word : ReadWord) (evidence : Option Evidence) (heard : ℕ → Bool)
      → rules.f + 1 ≤ count_below (committee_size rules.f) heard
      → ((helper : ℕ) → helper < committee_size rules.f → heard helper ≡ true
      → (parts : Parts) × RepliedTo rules id payloads helper parts)
      → rules.Reads id payloads word evidence → (told : Verdict) × (told_by word ≡ Some told)
  -- a recovery of a secondary sliver that has the replies of more than f settled shards ends well
  pub secondary_recovers : (id : BlobId) (shard : ℕ) (old new : Contents)
      (payloads : List (List ℕ)) (word : RecoverWord) (heard : ℕ → Bool)
      → rules.f + 1 ≤ count_below (committee_size rules.f) heard
      → ((helper : ℕ) → helper < committee_size rules.f → heard helper ≡ true
      → (parts : Parts) × (settled parts ≡ true)
      × Helped rules id Secondary shard payloads helper parts)
      → shard < committee_size rules.f → AllSound rules shard old
      → (rules.ContradictsHeld id (parts_at old id) payloads → ⊥)
      → rules.Recovers id shard Secondary old payloads word new → IsSettledBy word
  -- a recovery of a primary sliver that has the replies of a quorum of shards with secondary
  -- slivers is decided
  pub primary_recovers : (id : BlobId) (shard : ℕ) (old new : Contents)
      (payloads : List (List ℕ)) (word : RecoverWord) (heard : ℕ → Bool)
      → quorum_size rules.f ≤ count_below (committee_size rules.f) heard
      → ((helper : ℕ) → helper < committee_size rules.f → heard helper ≡ true
      → (parts : Parts) × (is_some parts.secondary ≡ true)
      × Helped rules id Primary shard payloads helper parts)
      → shard < committee_size rules.f → AllSound rules shard old
      → (rules.ContradictsHeld id (parts_at old id) payloads → ⊥)
      → rules.Recovers id shard Primary old payloads word new → IsDecidedBy word
