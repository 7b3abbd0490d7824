-- What serves private functions and proofs beside Total.
use Rattle.std.specs.Prelude.{◌≡◌, ◌≢◌, ℕ, ◌<◌, ◌≤◌, true, is_some, List, length, Option, All}
use Rattle.std.specs.Prelude.{Contains}
use Rattle.wal_shape.specs.declared.metadata.BlobId.{BlobId}
use Rattle.wal_shape.specs.declared.axis.Axis.{Axis}
use Rattle.wal_shape.specs.declared.shape.Format.{Format}
use Rattle.wal_shape.specs.Shape.{most_bytes}
use Rattle.wal_evidence.specs.declared.evidence.Evidence.{Evidence}
use Rattle.wal_frame.specs.Frame.{Frame}
use Rattle.wal_event.specs.declared.line.ReadWord.{ReadWord}
use Rattle.wal_event.specs.declared.line.RecoverWord.{RecoverWord}
use Rattle.wal_event.specs.declared.line.RecoverWord.TheVariants as recovering
use Rattle.wal_ledger.specs.Shards.{committee_size}
use Rattle.wal_ledger.specs.Ledger.{Log}
use Rattle.wal_store.specs.Parts.{Parts}
use Rattle.wal_store.specs.Contents.{Contents, parts_at}
use Rattle.wal_shard.specs.declared.answers.PutAnswer.{PutAnswer}
use Rattle.wal_shard.specs.declared.answers.PutAnswer.TheVariants as putting
use Rattle.wal_protocol.specs.declared.first.First.{First}
use Rattle.wal_protocol.specs.State.{verdict_of}
use Rattle.wal_protocol.specs.Rules.{Rules}
use Rattle.wal_protocol.specs.Step.{is_clash, told_by}
use Rattle.wal_protocol.specs.inside.Laws.{AllSound}
use Rattle.wal_protocol.specs.Total.{Possible, AreBytes}

-- there are two texts that collide
abbrev pub HasCollision : Rules → Type 0
HasCollision rules = (left : List ℕ) × (right : List ℕ) × rules.IsCollision left right

-- without a limit of pages and without want of memory, a put is not refused for either
abbrev pub HasRoom : PutAnswer → Type 0
HasRoom (putting.Full needed free) = ⊥
HasRoom putting.Memory = ⊥
HasRoom _ = Unit {0}

-- a put to a shard that holds what is sound has an answer
abbrev pub IsAnswered : Rules → Log → ℕ → Frame → Type 0
IsAnswered rules log shard frame =
    (old : Contents) → AllSound rules shard old
    → Possible ((answer : PutAnswer) × (new : Contents) × rules.Puts log shard old frame answer new)

-- the word of a recovery that runs
abbrev pub IsFound : RecoverWord → Type 0
IsFound recovering.Absent = ⊥
IsFound recovering.Ignored = ⊥
IsFound recovering.Unregistered = ⊥
IsFound _ = Unit {0}

-- the result of a read, with evidence exactly if it is a verdict
abbrev pub IsReadAs : Rules → BlobId → List (List ℕ) → ReadWord → Option Evidence → Type 0
IsReadAs rules id payloads word evidence =
    rules.Reads id payloads word evidence × (is_some evidence ≡ is_some (told_by word))

pub record Total (rules : Rules) : Type 0 where
  -- an honest writer has a message for each blob
  pub message : (format : Format) (blob : List ℕ) → length blob ≤ most_bytes → AreBytes blob
      → Possible
      ((id : BlobId) × (message : ℕ → List Frame) × rules.IsMessage format blob id message)
  -- each of its frames is answered, and so are frames that are read
  pub put_message : (format : Format) (blob : List ℕ) (id : BlobId) (message : ℕ → List Frame)
      → rules.IsMessage format blob id message → (log : Log) (shard : ℕ)
      → shard < committee_size rules.f
      → (frame : Frame) → Contains (message shard) frame → IsAnswered rules log shard frame
  pub put_read : (bytes : List ℕ) (frame : Frame) → AreBytes bytes → rules.IsPutFrame bytes frame
      → (log : Log) (shard : ℕ) → IsAnswered rules log shard frame
  pub put_room : (log : Log) (shard : ℕ) (old new : Contents) (frame : Frame) (answer : PutAnswer)
      → rules.Puts log shard old frame answer new → HasRoom answer
  pub put_collides : (log : Log) (shard : ℕ)
      (old new : Contents) (frame : Frame) (answer : PutAnswer)
      → rules.Puts log shard old frame answer new → is_clash answer ≡ true → HasCollision rules
  -- a sound holding has a reply, in bytes
  pub read_replied : (id : BlobId) (shard : ℕ) (parts : Parts) → rules.IsSound id shard parts
      → All AreBytes (rules.read_reply id shard parts)
  pub symbol_replied : (id : BlobId) (helper : ℕ) (parts : Parts) (axis : Axis) (shard : ℕ)
      → rules.IsSound id helper parts
      → Possible
      ((payloads : List (List ℕ)) × rules.IsSymbolReply id helper parts axis shard payloads
      × All AreBytes payloads)
  -- a read of payloads in which no two metadata differ has a result, and two that differ collide
  pub reads : (id : BlobId) (payloads : List (List ℕ)) → All AreBytes payloads
      → (rules.HasTwoMetadata id payloads → ⊥)
      → Possible
      ((word : ReadWord) × (evidence : Option Evidence) × IsReadAs rules id payloads word evidence)
  pub two_collide : (id : BlobId) (payloads : List (List ℕ)) → All AreBytes payloads
      → rules.HasTwoMetadata id payloads → Possible (HasCollision rules)
  -- the same for recoveries
  pub recovers : (id : BlobId) (shard : ℕ) (axis : Axis) (old : Contents) (payloads : List (List ℕ))
      → shard < committee_size rules.f → All AreBytes payloads → AllSound rules shard old
      → (rules.ContradictsHeld id (parts_at old id) payloads → ⊥)
      → Possible ((word : RecoverWord) × (new : Contents)
      × rules.Recovers id shard axis old payloads word new × IsFound word)
  pub held_collides : (id : BlobId) (shard : ℕ) (parts : Parts) (payloads : List (List ℕ))
      → All AreBytes payloads → rules.IsSound id shard parts
      → rules.ContradictsHeld id parts payloads
      → Possible (HasCollision rules)
  -- and first answers that rest on something but have different verdicts collide
  pub answers_collide : (id : BlobId) (one other : First) → rules.IsBacked id one
      → rules.IsBacked id other
      → verdict_of one ≢ verdict_of other → Possible (HasCollision rules)
