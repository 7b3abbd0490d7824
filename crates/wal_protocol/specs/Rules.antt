-- What the crates below say of frames, holdings and replies, as far as the steps of the world speak
-- of them.
use Rattle.std.specs.Prelude.{ℕ, Bool, List, Option}
use Rattle.wal_shape.specs.declared.metadata.BlobId.{BlobId}
use Rattle.wal_shape.specs.declared.axis.Axis.{Axis}
use Rattle.wal_shape.specs.declared.shape.Format.{Format}
use Rattle.wal_evidence.specs.declared.evidence.Evidence.{Evidence}
use Rattle.wal_frame.specs.Frame.{Frame}
use Rattle.wal_event.specs.declared.line.ReadWord.{ReadWord}
use Rattle.wal_event.specs.declared.line.RecoverWord.{RecoverWord}
use Rattle.wal_store.specs.Parts.{Parts}
use Rattle.wal_store.specs.Contents.{Contents}
use Rattle.wal_ledger.specs.Ledger.{Log}
use Rattle.wal_shard.specs.declared.answers.PutAnswer.{PutAnswer}
use Rattle.wal_protocol.specs.declared.first.First.{First}

-- what puts, honest writes, replies, reads and recoveries are, as far as a step speaks of them
pub record Rules : Type 1 where
  -- a committee has 3f + 1 shards
  pub f : ℕ
  -- two different texts with one digest
  pub IsCollision : List ℕ → List ℕ → Type 0
  -- bytes are a frame that may be put: a metadata, a sliver or a proof
  pub IsPutFrame : List ℕ → Frame → Type 0
  -- what a put of a frame to a shard answers, by the ledger, the shard's number, and what it holds
  -- before and after
  pub Puts : Log → ℕ → Contents → Frame → PutAnswer → Contents → Type 0
  -- the identifier of a blob in a format, and the frames that an honest writer sends to each shard
  pub IsMessage : Format → List ℕ → BlobId → (ℕ → List Frame) → Type 0
  -- whether what a shard holds of the blob is what the frames that were sent to it bring
  pub has_message : List Frame → Parts → Bool
  -- the payloads with which a shard that holds these parts of a blob replies to a reader
  pub read_reply : BlobId → ℕ → Parts → List (List ℕ)
  -- the payloads with which it replies to a shard that recovers its sliver of an axis
  pub IsSymbolReply : BlobId → ℕ → Parts → Axis → ℕ → List (List ℕ) → Type 0
  -- the result of a read of payloads, with the evidence for bytes or a rejection
  pub Reads : BlobId → List (List ℕ) → ReadWord → Option Evidence → Type 0
  -- two metadata of a blob among the payloads differ
  pub HasTwoMetadata : BlobId → List (List ℕ) → Type 0
  -- two metadata of a blob among the payloads and what a shard holds differ
  pub ContradictsHeld : BlobId → Parts → List (List ℕ) → Type 0
  -- the result of a shard's recovery of its sliver of an axis, by what it holds before and after
  pub Recovers : BlobId → ℕ → Axis → Contents → List (List ℕ) → RecoverWord → Contents → Type 0
  -- what a first completed answer rests on: evidence for the blob with this verdict, or bytes with
  -- its identifier
  pub IsBacked : BlobId → First → Type 0
  -- what a shard holds of a blob is sound
  pub IsSound : BlobId → ℕ → Parts → Type 0
  -- a shard holds a metadata that the identifier commits, and by it these bytes are its sliver of
  -- the axis
  pub CommitsTo : BlobId → ℕ → Axis → List ℕ → Parts → Type 0
  -- it holds a metadata that the identifier commits, and a proof that this metadata's blob is badly
  -- encoded
  pub Refutes : BlobId → Parts → Type 0
