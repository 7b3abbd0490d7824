-- Replies of shards, written into a network's buffer and taken from it, and what a read of them is
-- compared with.
use Rattle.std.specs.Prelude.{◌≡◌, ℕ, List, Option, Some, None}
use Rattle.std.specs.FinMap as finmap
use Rattle.wal_shape.specs.declared.metadata.BlobId.{BlobId}
use Rattle.wal_shape.specs.declared.text.Collision.{Collision}
use Rattle.wal_tree.specs.Collision.{IsCollision}
use Rattle.wal_evidence.specs.declared.evidence.Evidence.{Evidence}
use Rattle.wal_evidence.specs.declared.evidence.Verdict.{Verdict}
use Rattle.wal_evidence.specs.declared.evidence.Verdict.TheVariants as verdict
use Rattle.wal_event.specs.declared.line.ReadWord.{ReadWord}
use Rattle.wal_event.specs.declared.line.ReadWord.TheVariants as reading
use Rattle.wal_protocol.specs.declared.first.First.{First}
use Rattle.wal_protocol.specs.declared.first.First.TheVariants.{Judged}
use Rattle.wal_world.specs.declared.network.Network.{Network}
use Rattle.wal_world.specs.declared.taken.Taken.{Taken}
use Rattle.wal_world.specs.declared.taken.Taken.TheVariants as taken
use Rattle.wal_protocol.specs.State.{World, answered, verdict_of}
use Rattle.wal_protocol.specs.Rules.{Rules}
use Rattle.wal_protocol.specs.Step.{AgreesWithFirst, Differs, told_by}
use Rattle.wal_theorem.specs.Instance.{IsBackedBy}

-- all of the network stays, but for the contents of its tables and its buffer
pub record IsLike {H : Type 0} (old new : Network H) : Type 0 where
  pub format : new.format ≡ old.format
  pub books : new.books ≡ old.books
  pub few : new.few ≡ old.few
  pub sides : new.sides ≡ old.sides
  pub answers : new.answers ≡ old.answers
  pub work : new.work.f ≡ old.work.f

-- each first completed answer is backed
abbrev pub AreBacked : (List ℕ → List ℕ) → World → Type 0
AreBacked digest world =
    (id : BlobId) (first : First) → finmap.get world.answers id ≡ Some first
    → IsBackedBy digest world.log.f id first

-- a completed answer is the first one, or agrees with it
abbrev pub IsAgreed : World → BlobId → First → World → Type 0
IsAgreed old id answer new =
    AgreesWithFirst old.answers id (verdict_of answer)
    × (new ≡ record old { answers = answered old.answers id answer })

-- or the first one gives another verdict, and two texts collide
abbrev pub IsCompared : (List ℕ → List ℕ) → World → BlobId → First → Option Collision → World
    → Type 0
IsCompared digest old id answer None new = IsAgreed old id answer new
IsCompared digest old id answer (Some collision) new =
    IsCollision digest collision.left collision.right × Differs old.answers id (verdict_of answer)
    × (new ≡ old)

-- the word that is said then
abbrev pub IsTold : (List ℕ → List ℕ) → World → BlobId → First → ReadWord → World → Taken ReadWord
    → Type 0
IsTold digest old id answer word new (taken.Word said) = (said ≡ word) × IsAgreed old id answer new
IsTold digest old id answer word new (taken.Collision collision) =
    IsCollision digest collision.left collision.right × Differs old.answers id (verdict_of answer)
    × (new ≡ old)

-- a read of these payloads completes
pub record CompletesOn (rules : Rules) (old : World) (id : BlobId) (payloads : List (List ℕ))
    (word : ReadWord) (told : Verdict) (new : World) : Type 0 where
  pub evidence : Evidence
  pub reads : rules.Reads id payloads word (Some evidence)
  pub agreed : IsAgreed old id (Judged evidence told) new

-- a read of these payloads
abbrev pub ReadsOn : Rules → World → BlobId → List (List ℕ) → ReadWord → World → Type 0
ReadsOn rules old id payloads (reading.Bytes bytes) new =
    CompletesOn rules old id payloads (reading.Bytes bytes) (verdict.Bytes bytes) new
ReadsOn rules old id payloads reading.Reject new =
    CompletesOn rules old id payloads reading.Reject verdict.Reject new
ReadsOn rules old id payloads word new = rules.Reads id payloads word None × (new ≡ old)

-- a read that ends in a collision
pub data CollidesOn (rules : Rules) (old : World) (id : BlobId)
    (payloads : List (List ℕ)) : Type 0 where
  both_metadata : rules.HasTwoMetadata id payloads → CollidesOn rules old id payloads
  another_answer : (word : ReadWord) (told : Verdict) (evidence : Evidence)
      → rules.Reads id payloads word (Some evidence) → told_by word ≡ Some told
      → Differs old.answers id told → CollidesOn rules old id payloads
