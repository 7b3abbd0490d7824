-- The rules of the world by what frames, blobs, holdings, reads and recoveries are.
use Rattle.std.specs.Prelude.{◌≡◌, ◌≢◌, ◌⊎◌, ℕ, Bool, false, is_some, nat_eq, List, [], Option}
use Rattle.std.specs.Prelude.{Some, None, Ok}
use Rattle.std.specs.List.{list_all}
use Rattle.std.specs.Cmp.Lexicographic.{pointwise}
use Rattle.wal_shape.specs.declared.metadata.BlobId.{BlobId}
use Rattle.wal_shape.specs.declared.axis.Axis.{Axis}
use Rattle.wal_shape.specs.declared.shape.Format.{Format}
use Rattle.wal_shape.specs.Shape.{sliver_symbols}
use Rattle.wal_shape.specs.Metadata.{BlobMetadata, held_index}
use Rattle.wal_shape.specs.EncodingProof.{EncodingProof}
use Rattle.wal_shape.specs.Spelling.{metadata_text, proof_text}
use Rattle.wal_tree.specs.Collision.{IsCollision}
use Rattle.wal_commit.specs.Identifier.{Commits, IsIdentifierOf}
use Rattle.wal_commit.specs.Held.{HoldsSliver}
use Rattle.wal_evidence.specs.BadProof.{IsBadProof}
use Rattle.wal_evidence.specs.Evidence.{IsEvidence, IsJudgedBy}
use Rattle.wal_evidence.specs.declared.evidence.Evidence.{Evidence}
use Rattle.wal_recover.specs.declared.outcome.Recovered.{Recovered}
use Rattle.wal_recover.specs.declared.outcome.Recovered.TheVariants as recovered
use Rattle.wal_recover.specs.Recovery.{OpeningsComeTo}
use Rattle.wal_frame.specs.Frame.{Frame, Metadata, Sliver, IsFrame}
use Rattle.wal_frame.specs.Reading.{read_of}
use Rattle.wal_event.specs.declared.line.ReadWord.{ReadWord}
use Rattle.wal_event.specs.declared.line.ReadWord.TheVariants as reading
use Rattle.wal_event.specs.declared.line.RecoverWord.{RecoverWord}
use Rattle.wal_event.specs.declared.line.RecoverWord.TheVariants as recovering
use Rattle.wal_reader.specs.Carried.{openings_in, IsFirstBadProof, NoBadProof}
use Rattle.wal_reader.specs.Outcome.{IsOutcome, HasEvidence, HasMetadata}
use Rattle.wal_reader.specs.Settled.{HasTwo}
use Rattle.wal_reader.specs.declared.outcome.Outcome.{Outcome}
use Rattle.wal_reader.specs.declared.outcome.Outcome.TheVariants as outcome
use Rattle.wal_store.specs.Parts.{Parts, part_of}
use Rattle.wal_store.specs.Contents.{Contents, parts_at}
use Rattle.wal_ledger.specs.Ledger.{Log}
use Rattle.wal_shard.specs.declared.answers.PutAnswer.{PutAnswer}
use Rattle.wal_shape.specs.Part.{sliver_part}
use Rattle.wal_shard.specs.Holding.{HoldsMetadata, IsSound, SymbolReplies, read_reply_of}
use Rattle.wal_shard.specs.Keeping.{kept_sliver, kept_proof}
use Rattle.wal_shard.specs.Putting.{CanBePut, Puts}
use Rattle.wal_shard.specs.State.{desk_of}
use Rattle.wal_writer.specs.Message.{IsMessageOf}
use Rattle.wal_protocol.specs.declared.first.First.{First}
use Rattle.wal_protocol.specs.declared.first.First.TheVariants.{Judged, Written}
use Rattle.wal_protocol.specs.Rules.{Rules}

-- ---- puts

-- the bytes are a metadata, a sliver or a proof
abbrev pub IsPutFrame : List ℕ → Frame → Type 0
IsPutFrame bytes frame = (read_of bytes ≡ Ok frame) × CanBePut frame

-- a frame that has a spelling is put to a shard, without a limit of pages
abbrev pub PutsFrame : (List ℕ → List ℕ) → ℕ → Log → ℕ → Contents → Frame → PutAnswer → Contents
    → Type 0
PutsFrame digest f log shard old frame answer new =
    IsFrame frame × Puts digest (desk_of f shard None log) old frame answer new

-- ---- honest writes

-- whether these bytes are held
abbrev pub is_bytes : Option (List ℕ) → List ℕ → Bool
is_bytes None bytes = false
is_bytes (Some held) bytes = pointwise nat_eq held bytes

-- whether this metadata is held, or a sliver of this axis
abbrev pub has_frame : Parts → Frame → Bool
has_frame parts (Metadata metadata) = is_bytes parts.metadata (metadata_text metadata)
has_frame parts (Sliver id axis index bytes) = is_some (part_of parts (sliver_part axis))
has_frame parts _ = false

-- whether all of these are
abbrev pub has_frames : List Frame → Parts → Bool
has_frames frames parts = list_all (has_frame parts) frames

-- ---- reads

-- what a shard replies to one that recovers its sliver of an axis: symbols of the sliver that its
-- own metadata gives, and nothing if it holds none
pub data SymbolReply (digest : List ℕ → List ℕ) (id : BlobId) (helper : ℕ)
    (parts : Parts) (axis : Axis) (shard : ℕ) : List (List ℕ)
    → Type 0 where
  silent : parts.metadata ≡ None → SymbolReply digest id helper parts axis shard []
  replies : (metadata : BlobMetadata) (payloads : List (List ℕ)) → HoldsMetadata parts metadata
      → SymbolReplies digest id.0 helper parts axis
      (held_index metadata.format metadata.f axis shard) payloads
      → SymbolReply digest id helper parts axis shard payloads

-- the outcome that a word tells
abbrev pub outcome_told : ReadWord → Outcome
outcome_told (reading.Bytes bytes) = outcome.Bytes bytes
outcome_told reading.Reject = outcome.Reject
outcome_told (reading.Short have need) = outcome.Short have need
outcome_told reading.NoMetadata = outcome.NoMetadata

-- a read of payloads has this word as its result, with this evidence
abbrev pub ReadsTo : (List ℕ → List ℕ) → BlobId → List (List ℕ) → ReadWord → Option Evidence
    → Type 0
ReadsTo digest id payloads word evidence =
    IsOutcome digest id.0 payloads (outcome_told word)
    × HasEvidence digest id.0 payloads (outcome_told word) evidence

-- ---- recoveries

-- a metadata of the identifier among the payloads, or what a shard holds as the blob's
-- metadata
abbrev pub Knows : (List ℕ → List ℕ) → BlobId → Parts → List (List ℕ) → BlobMetadata → Type 0
Knows digest id parts payloads metadata =
    HasMetadata digest id.0 payloads metadata ⊎ HoldsMetadata parts metadata

-- two of them differ
abbrev pub KnowsTwo : (List ℕ → List ℕ) → BlobId → Parts → List (List ℕ) → Type 0
KnowsTwo digest id parts payloads =
    (one : BlobMetadata) × (other : BlobMetadata) × Knows digest id parts payloads one
    × Knows digest id parts payloads other × (one ≢ other)

-- this metadata is the only one, and has the committee's f
pub record IsKnown (digest : List ℕ → List ℕ) (f : ℕ) (id : BlobId)
    (parts : Parts) (payloads : List (List ℕ)) (metadata : BlobMetadata) : Type 0 where
  pub known : Knows digest id parts payloads metadata
  pub only : (other : BlobMetadata) → Knows digest id parts payloads other → other ≡ metadata
  pub faults : metadata.f ≡ f

-- the result of all openings of the shard's own sliver by this metadata
abbrev pub OwnOpeningsComeTo : (List ℕ → List ℕ) → BlobId → ℕ → Axis → List (List ℕ) → BlobMetadata
    → Recovered → Type 0
OwnOpeningsComeTo digest id shard axis payloads metadata found =
    let index = held_index metadata.format metadata.f axis shard in
    OpeningsComeTo digest metadata axis index (openings_in id.0 axis index payloads) found

-- the result of a recovery, and what the shard holds then: a part that is held stays
abbrev pub RecoversTo : (List ℕ → List ℕ) → ℕ → BlobId → ℕ → Axis → Contents → List (List ℕ)
    → RecoverWord → Contents → Type 0
-- no metadata is known that has the committee's f
RecoversTo digest f id shard axis old payloads recovering.NoMetadata new =
    ((metadata : BlobMetadata) → Knows digest id (parts_at old id) payloads metadata
    → metadata.f ≢ f)
    × (new ≡ old)
-- the openings give the sliver
RecoversTo digest f id shard axis old payloads (recovering.Sliver bytes) new =
    (metadata : BlobMetadata) × IsKnown digest f id (parts_at old id) payloads metadata
    × OwnOpeningsComeTo digest id shard axis payloads metadata (recovered.Sliver bytes)
    × (new ≡ kept_sliver old id metadata axis bytes)
-- they are a proof of bad encoding
RecoversTo digest f id shard axis old payloads recovering.Inconsistent new =
    (metadata : BlobMetadata) × IsKnown digest f id (parts_at old id) payloads metadata
    × (proof : EncodingProof)
    × OwnOpeningsComeTo digest id shard axis payloads metadata (recovered.Inconsistent proof)
    × (new ≡ kept_proof old id metadata proof)
-- they are too few, and the first bad proof among the payloads is taken
RecoversTo digest f id shard axis old payloads recovering.Proof new =
    (metadata : BlobMetadata) × IsKnown digest f id (parts_at old id) payloads metadata × (have : ℕ)
    × OwnOpeningsComeTo digest id shard axis payloads metadata (recovered.Short have)
    × (proof : EncodingProof)
    × IsFirstBadProof digest id.0 metadata payloads proof
    × (new ≡ kept_proof old id metadata proof)
-- they are too few, and there is none
RecoversTo digest f id shard axis old payloads (recovering.Short have need) new =
    (metadata : BlobMetadata) × IsKnown digest f id (parts_at old id) payloads metadata
    × OwnOpeningsComeTo digest id shard axis payloads metadata (recovered.Short have)
    × NoBadProof digest id.0 metadata payloads × (need ≡ sliver_symbols axis metadata.f)
    × (new ≡ old)
-- all else is no recovery
RecoversTo digest f id shard axis old payloads _ new = ⊥

-- ---- what is promised

-- evidence for the identifier has this verdict, or the bytes have that identifier in a format
abbrev pub IsBackedBy : (List ℕ → List ℕ) → ℕ → BlobId → First → Type 0
IsBackedBy digest f id (Judged evidence verdict) =
    IsEvidence digest id.0 evidence × IsJudgedBy digest evidence.metadata evidence.basis verdict
IsBackedBy digest f id (Written bytes) =
    (format : Format) × IsIdentifierOf digest format f bytes id.0

-- a metadata is held that the identifier commits
pub record HoldsCommitted (digest : List ℕ → List ℕ) (id : BlobId)
    (parts : Parts) (metadata : BlobMetadata) : Type 0 where
  pub held : HoldsMetadata parts metadata
  pub committed : Commits digest id.0 metadata

-- and by it these bytes are the shard's sliver of the axis
abbrev pub CommitsSliver : (List ℕ → List ℕ) → BlobId → ℕ → Axis → List ℕ → Parts → Type 0
CommitsSliver digest id shard axis bytes parts =
    (metadata : BlobMetadata) × HoldsCommitted digest id parts metadata
    × HoldsSliver digest metadata axis (held_index metadata.format metadata.f axis shard) bytes

-- and a proof that its blob is badly encoded
abbrev pub HoldsBadProof : (List ℕ → List ℕ) → BlobId → Parts → Type 0
HoldsBadProof digest id parts =
    (metadata : BlobMetadata) × HoldsCommitted digest id parts metadata × (proof : EncodingProof)
    × (parts.proof ≡ Some (proof_text proof)) × IsBadProof digest metadata proof

-- THE RULES, for a digest and a number of faults
abbrev pub rules_of : (List ℕ → List ℕ) → ℕ → Rules
rules_of digest f = record {
  f = f;
  IsCollision = IsCollision digest;
  IsPutFrame = IsPutFrame;
  Puts = PutsFrame digest f;
  IsMessage = IsMessageOf digest f;
  has_message = has_frames;
  read_reply = λ id shard parts. read_reply_of id.0 shard parts;
  IsSymbolReply = SymbolReply digest;
  Reads = ReadsTo digest;
  HasTwoMetadata = λ id payloads. HasTwo digest id.0 payloads;
  ContradictsHeld = KnowsTwo digest;
  Recovers = RecoversTo digest f;
  IsBacked = IsBackedBy digest f;
  IsSound = λ id shard parts. IsSound digest f id.0 shard parts;
  CommitsTo = CommitsSliver digest;
  Refutes = HoldsBadProof digest;
}
