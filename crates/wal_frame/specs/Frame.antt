-- Frames, the messages of the store, and the envelopes in which they are sent.
use Rattle.std.specs.Prelude.{◌≡◌, ℕ, ◌≤◌, ◌<◌, ◌^◌, List, [], ◌∷◌, ◌++◌, length}
use Rattle.std.specs.Int.{w16, w32}
use Rattle.wal_shape.specs.declared.axis.Axis.{Axis}
use Rattle.wal_shape.specs.declared.opening.Opening as single
use Rattle.wal_shape.specs.declared.shape.Format.{Format}
use Rattle.wal_shape.specs.declared.shape.Format.TheVariants.{One, Two}
use Rattle.wal_shape.specs.Shape.{most_bytes}
use Rattle.wal_shape.specs.Metadata.{BlobMetadata, IsMetadata}
use Rattle.wal_shape.specs.Opening.{IsBody}
use Rattle.wal_shape.specs.EncodingProof.{EncodingProof, IsProof}
use Rattle.wal_shape.specs.Spelling.{number_text, axis_number, metadata_text, body_text, proof_text}

-- what the store's messages say, each with a blob's identifier if it names one
pub data Frame : Type 0 where
  -- a blob's metadata, whose format decides the kind
  Metadata : BlobMetadata → Frame
  -- a sliver of this axis and index, and its bytes
  Sliver : List ℕ → Axis → ℕ → List ℕ → Frame
  -- an opening, and a proof of bad encoding, of the sliver of this axis and index
  Opening : List ℕ → Axis → ℕ → single.Opening → Frame
  Proof : List ℕ → EncodingProof → Frame
  -- requests to read a blob's parts, symbols of a sliver, an acknowledgement, an attestation, and
  -- to forget
  Read : List ℕ → Frame
  Symbol : List ℕ → Axis → ℕ → Frame
  Ack : List ℕ → Frame
  Attest : List ℕ → Frame
  Forget : List ℕ → Frame
  -- an answer: its code and two numbers
  Answer : ℕ → ℕ → ℕ → Frame
  -- two texts of one digest
  Clash : List ℕ → List ℕ → Frame
  -- entries of the ledger, with the epoch until which they register, or with the shard
  RegisterEntry : List ℕ → ℕ → Frame
  AckEntry : ℕ → List ℕ → Frame
  AttestEntry : ℕ → List ℕ → Frame

-- an identifier has 32 bytes
abbrev pub IsId : List ℕ → Type 0
IsId id = length id ≡ 32

-- an identifier of 32 bytes, the index of a shard, and no more bytes than a blob may have
pub record IsSliver (id : List ℕ) (index : ℕ) (bytes : List ℕ) : Type 0 where
  pub id_size : length id ≡ 32
  pub index_most : index ≤ 999
  pub size_most : length bytes ≤ most_bytes

-- an identifier and the index of a shard
pub record IsTarget (id : List ℕ) (index : ℕ) : Type 0 where
  pub id_size : length id ≡ 32
  pub index_most : index ≤ 999

-- a code, and two numbers of four bytes
pub record IsAnswerFrame (code first second : ℕ) : Type 0 where
  pub code_most : code ≤ 15
  pub a_fits : first < 2 ^ 32
  pub b_fits : second < 2 ^ 32

-- two texts no longer than the longest that is digested for an identifier
pub record AreTexts (left right : List ℕ) : Type 0 where
  pub left_most : length left ≤ 65
  pub right_most : length right ≤ 65

-- the frames that have a spelling
abbrev pub IsFrame : Frame → Type 0
IsFrame (Metadata metadata) = IsMetadata metadata
IsFrame (Sliver id axis index bytes) = IsSliver id index bytes
IsFrame (Opening id axis index opening) = IsTarget id index × IsBody opening
IsFrame (Proof id proof) = IsId id × IsProof proof
IsFrame (Read id) = IsId id
IsFrame (Symbol id axis index) = IsTarget id index
IsFrame (Ack id) = IsId id
IsFrame (Attest id) = IsId id
IsFrame (Forget id) = IsId id
IsFrame (Answer code first second) = IsAnswerFrame code first second
IsFrame (Clash left right) = AreTexts left right
IsFrame (RegisterEntry id until) = IsId id × (until ≤ 65536)
IsFrame (AckEntry shard id) = IsTarget id shard
IsFrame (AttestEntry shard id) = IsTarget id shard

-- the kind of a metadata frame, by format
abbrev pub metadata_kind : Format → ℕ
metadata_kind One = 0x10
metadata_kind Two = 0x14

-- a frame that carries metadata
abbrev pub metadata_frame : BlobMetadata → List ℕ
metadata_frame metadata = metadata_kind metadata.format ∷ metadata_text metadata

-- the blob's identifier, and the axis and index of a sliver
abbrev pub target_text : List ℕ → Axis → ℕ → List ℕ
target_text id axis index = id ++ axis_number axis ∷ [] ++ number_text w16 index

-- what stands before a sliver's bytes: the blob's identifier, the axis, the sliver's index and its
-- size
abbrev pub sliver_front : List ℕ → Axis → ℕ → ℕ → List ℕ
sliver_front id axis index size = 0x11 ∷ (target_text id axis index ++ number_text w32 size)

-- a frame that carries a sliver: the blob's identifier, the axis, the sliver's index, its length
-- and its bytes
abbrev pub sliver_frame : List ℕ → Axis → ℕ → List ℕ → List ℕ
sliver_frame id axis index bytes =
    0x11 ∷ (id ++ axis_number axis ∷ [] ++ number_text w16 index ++ number_text w32 (length bytes)
    ++ bytes)

-- the one spelling of a frame
abbrev pub frame_text : Frame → List ℕ
frame_text (Metadata metadata) = metadata_frame metadata
frame_text (Sliver id axis index bytes) = sliver_frame id axis index bytes
frame_text (Opening id axis index opening) = 0x12 ∷ (target_text id axis index ++ body_text opening)
frame_text (Proof id proof) = 0x13 ∷ (id ++ proof_text proof)
frame_text (Read id) = 0x20 ∷ id
frame_text (Symbol id axis index) = 0x21 ∷ target_text id axis index
frame_text (Ack id) = 0x22 ∷ id
frame_text (Attest id) = 0x23 ∷ id
frame_text (Forget id) = 0x24 ∷ id
frame_text (Answer code first second) =
    0x30 ∷ (code ∷ [] ++ number_text w32 first ++ number_text w32 second)
frame_text (Clash left right) = 0x31 ∷ (length left ∷ left ++ length right ∷ right)
frame_text (RegisterEntry id until) = 0x40 ∷ (id ++ number_text w32 until)
frame_text (AckEntry shard id) = 0x41 ∷ (number_text w16 shard ++ id)
frame_text (AttestEntry shard id) = 0x42 ∷ (number_text w16 shard ++ id)

-- an envelope: the byte 0x57, the sender, the length of the payload, and the payload
abbrev pub envelope : ℕ → List ℕ → List ℕ
envelope sender payload =
    0x57 ∷ (number_text w16 sender ++ number_text w32 (length payload) ++ payload)
