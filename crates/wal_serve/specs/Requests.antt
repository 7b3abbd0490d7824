-- What requests with a single reply do: the state before, the reply, and the state then.
use Rattle.std.specs.Prelude.{◌≡◌, ℕ, ◌<◌, Bool, List, Result, Ok, Err}
use Rattle.wal_shape.specs.declared.metadata.BlobId.{BlobId}
use Rattle.wal_shape.specs.declared.text.MetaClash.{MetaClash}
use Rattle.wal_frame.specs.Frame.{Frame}
use Rattle.wal_ledger.specs.declared.answers.RegisterAnswer.{RegisterAnswer}
use Rattle.wal_ledger.specs.declared.answers.AckAnswer.{AckAnswer}
use Rattle.wal_ledger.specs.declared.answers.AttestAnswer.{AttestAnswer}
use Rattle.wal_ledger.specs.declared.entry.Kind.{Kind}
use Rattle.wal_ledger.specs.declared.entry.Kind.TheVariants.{Holds, Denies}
use Rattle.wal_ledger.specs.Ledger.{Log, LedgerState}
use Rattle.wal_ledger.specs.Shards.{committee_size}
use Rattle.wal_ledger.specs.Answers.{Registers, Acks, Attests}
use Rattle.wal_store.specs.Contents.{Contents}
use Rattle.wal_shard.specs.declared.answers.AckRefusal.{AckRefusal}
use Rattle.wal_shard.specs.declared.answers.PutAnswer.{PutAnswer}
use Rattle.wal_shard.specs.Putting.{PutsOrWants, ShowsTexts}
use Rattle.wal_shard.specs.State.{ShardState, desk}
use Rattle.wal_shard.specs.Vouching.{Vouches, MayForget, without_slivers}
use Rattle.wal_serve.specs.declared.reply.Reply.{Reply}
use Rattle.wal_serve.specs.State.{ServedState}
use Rattle.wal_serve.specs.Reply.{done, refused, no_shard, put_reply, refusal_reply, ack_reply}
use Rattle.wal_serve.specs.Reply.{attest_reply, IsRegisterReply}

-- a metadata, a sliver or a proof is put to the shard, and the texts of a collision are the put
-- metadata's and the held one's
abbrev pub IsPutRequest : (List ℕ → List ℕ) → Bool → ShardState → Log → Frame
    → Result Reply MetaClash → Contents → Type 0
IsPutRequest digest may_want shard log frame outcome new =
    (answer : PutAnswer)
    × PutsOrWants digest may_want (desk shard log) shard.contents frame answer new
    × (outcome ≡ put_reply answer)
    × ShowsTexts digest shard.contents frame answer

-- a registration is answered by the ledger
abbrev pub Registered : LedgerState → BlobId → ℕ → Reply → LedgerState → Type 0
Registered old id until reply new =
    (answer : RegisterAnswer) × Registers old id until answer new × IsRegisterReply answer reply

-- that a shard holds a blob, or that a blob is badly encoded, is answered by the ledger
abbrev pub ClaimEntered : Kind → LedgerState → ℕ → BlobId → Reply → LedgerState → Type 0
ClaimEntered Holds old shard id reply new =
    (answer : AckAnswer) × Acks old shard id answer new × (reply ≡ ack_reply answer)
ClaimEntered Denies old shard id reply new =
    (answer : AttestAnswer) × Attests old shard id answer new × (reply ≡ attest_reply answer)

-- the shard acknowledges or attests if what it holds backs that, and then the ledger is asked
pub data Vouched (kind : Kind) (old : ServedState) (id : BlobId) : Reply → LedgerState
    → Type 0 where
  unbacked : (why : AckRefusal) → Vouches kind old.ledger.log old.shard.contents id (Err why)
      → Vouched kind old id (refusal_reply why) old.ledger
  asked : (reply : Reply) (new : LedgerState)
      → Vouches kind old.ledger.log old.shard.contents id (Ok tt)
      → ClaimEntered kind old.ledger old.shard.index id reply new → Vouched kind old id reply new

-- an entry of a shard of the committee is answered by the ledger
pub data Entered (kind : Kind) (old : LedgerState) (shard : ℕ) (id : BlobId) : Reply → LedgerState
    → Type 0 where
  of_committee : (reply : Reply) (new : LedgerState) → shard < committee_size old.log.f
      → ClaimEntered kind old shard id reply new → Entered kind old shard id reply new
  of_none : (shard < committee_size old.log.f → ⊥) → Entered kind old shard id no_shard old

-- the slivers of a blob are dropped if they may be
pub data Forgets (log : Log) (old : Contents) (id : BlobId) : Reply → Contents → Type 0 where
  forgotten : MayForget log old id → Forgets log old id (done 0) (without_slivers old id)
  kept : (MayForget log old id → ⊥) → Forgets log old id (refused 5) old
