-- What a correct shard does of its own accord, by the prefix of the ledger that it has applied and
-- by what it holds, and by nothing else.
use Rattle.std.specs.Prelude.{◌≡◌, ℕ, ◌≤◌, true, false, List, [], ◌∷◌, map, length}
use Rattle.wal_shape.specs.declared.metadata.BlobId.{BlobId}
use Rattle.wal_shape.specs.declared.axis.Axis.{Axis}
use Rattle.wal_shape.specs.declared.axis.Side.{Side}
use Rattle.wal_frame.specs.Frame.{Frame}
use Rattle.wal_event.specs.declared.event.Event.{Event}
use Rattle.wal_event.specs.declared.event.Event.TheVariants as event
use Rattle.wal_event.specs.declared.event.Reply.TheVariants as reply
use Rattle.wal_event.specs.declared.line.Line.{Line}
use Rattle.wal_event.specs.declared.line.Line.TheVariants as line
use Rattle.wal_event.specs.declared.line.SendWord.{SendWord}
use Rattle.wal_event.specs.declared.line.SendWord.TheVariants as sending
use Rattle.wal_event.specs.declared.line.RecoverWord.{RecoverWord}
use Rattle.wal_event.specs.declared.line.RecoverWord.TheVariants as recovering
use Rattle.wal_event.specs.declared.line.ForgetWord.TheVariants as forgetting
use Rattle.wal_ledger.specs.Ledger.{Log, is_live}
use Rattle.wal_store.specs.Contents.{Contents, parts_at}
use Rattle.wal_shard.specs.declared.answers.PutAnswer.{PutAnswer}
use Rattle.wal_shard.specs.declared.answers.PutAnswer.TheVariants as putting
use Rattle.wal_shard.specs.Vouching.{MayForget, without_slivers}
use Rattle.wal_protocol.specs.Rules.{Rules}

-- it takes bytes, recovers its sliver of an axis from payloads that it heard, whoever sent them, or
-- forgets a blob's slivers
pub data Deed : Type 0 where
  put : List ℕ → Deed
  recover : Axis → BlobId → List (List ℕ) → Deed
  forget : BlobId → Deed

-- a deed as an event of the world
abbrev pub deed_event : Side → ℕ → Deed → Event
deed_event side shard (put bytes) = event.Send side shard bytes
deed_event side shard (recover axis id heard) =
    event.Recover side shard axis id (map reply.Bytes heard)
deed_event side shard (forget id) = event.Forget side shard id

-- a recovery hears no more payloads than an event may have
abbrev pub IsDeedWithin : Deed → Type 0
IsDeedWithin (recover axis id heard) = length heard ≤ 4096
IsDeedWithin _ = Unit {0}

-- the answers to a put that leave all as it was, each with its word
pub data LeavesAll : PutAnswer → SendWord → Type 0 where
  unregistered : LeavesAll putting.Unregistered sending.Unregistered
  no_metadata : LeavesAll putting.NoMetadata sending.NoMetadata
  unverified : LeavesAll putting.Unverified sending.Unverified
  held : LeavesAll putting.Held sending.Held

-- the words of a recovery that has nothing to keep
pub data KeepsNothing : RecoverWord → Type 0 where
  no_metadata : KeepsNothing recovering.NoMetadata
  short : (have need : ℕ) → KeepsNothing (recovering.Short have need)

-- the words of a recovery that has something to keep
pub data KeepsSomething : RecoverWord → Type 0 where
  sliver : (bytes : List ℕ) → KeepsSomething (recovering.Sliver bytes)
  inconsistent : KeepsSomething recovering.Inconsistent
  proof : KeepsSomething recovering.Proof

-- a recovery by a shard: the blob is live at its prefix, and no two metadata differ
pub record IsRecovery (rules : Rules) (log : Log) (shard : ℕ) (old : Contents) (axis : Axis)
    (id : BlobId) (heard : List (List ℕ)) (word : RecoverWord) (new : Contents) : Type 0 where
  pub live : is_live log id ≡ true
  pub one_metadata : rules.ContradictsHeld id (parts_at old id) heard → ⊥
  pub recovers : rules.Recovers id shard axis old heard word new

-- WHAT A SHARD DOES: the line that it answers to a deed, and what it holds then. A deed that finds
-- a collision is none: such a shard stops
pub data Acts (rules : Rules) (log : Log) (shard : ℕ) (old : Contents) : Deed → Line → Contents
    → Type 0 where
  malformed : (bytes : List ℕ) → ((frame : Frame) → rules.IsPutFrame bytes frame → ⊥)
      → Acts rules log shard old (put bytes) (line.Send shard sending.Malformed) old
  refused : (bytes : List ℕ) (frame : Frame) (answer : PutAnswer) (word : SendWord)
      (contents : Contents) → rules.IsPutFrame bytes frame
      → rules.Puts log shard old frame answer contents → LeavesAll answer word
      → Acts rules log shard old (put bytes) (line.Send shard word) old
  stored : (bytes : List ℕ) (frame : Frame) (new : Contents) → rules.IsPutFrame bytes frame
      → rules.Puts log shard old frame putting.Stored new
      → Acts rules log shard old (put bytes) (line.Send shard sending.Stored) new
  unregistered : (axis : Axis) (id : BlobId) (heard : List (List ℕ)) → is_live log id ≡ false
      → Acts rules log shard old (recover axis id heard)
      (line.Recover shard axis id recovering.Unregistered) old
  missed : (axis : Axis) (id : BlobId) (heard : List (List ℕ)) (word : RecoverWord)
      (contents : Contents) → IsRecovery rules log shard old axis id heard word contents
      → KeepsNothing word
      → Acts rules log shard old (recover axis id heard) (line.Recover shard axis id word) old
  found : (axis : Axis) (id : BlobId) (heard : List (List ℕ)) (word : RecoverWord)
      (new : Contents) → IsRecovery rules log shard old axis id heard word new
      → KeepsSomething word
      → Acts rules log shard old (recover axis id heard) (line.Recover shard axis id word) new
  declined : (id : BlobId) → (MayForget log old id → ⊥)
      → Acts rules log shard old (forget id) (line.Forget shard id forgetting.Declined) old
  forgot : (id : BlobId) → MayForget log old id
      → Acts rules log shard old (forget id) (line.Forget shard id forgetting.Done)
      (without_slivers old id)

-- a deed that was done: the line that was answered, and what was held then
pub record Done : Type 0 where
  pub deed : Deed
  pub said : Line
  pub after : Contents

-- what is held behind these
abbrev pub last_held : List Done → Contents → Contents
last_held [] old = old
last_held (done ∷ more) old = last_held more done.after

-- deeds of a shard at one prefix, in their order
abbrev pub ActsEach : Rules → Log → ℕ → Contents → List Done → Type 0
ActsEach rules log shard old [] = Unit {0}
ActsEach rules log shard old (done ∷ more) =
    Acts rules log shard old done.deed done.said done.after
    × ActsEach rules log shard done.after more × IsDeedWithin done.deed
