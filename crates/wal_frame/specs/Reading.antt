-- Reading a frame from left to right, with the first fault that is met.
use Rattle.std.specs.Prelude.{ℕ, zero, suc, ◌+◌, ◌*◌, List, [], ◌∷◌, length, ◌<◌, Result, Ok, Err}
use Rattle.std.specs.Prelude.{◌==◌, if◌then◌else◌, ⊤}
use Rattle.std.specs.Int.{Width, w8, w16, w32, w64}
use Rattle.wal_shape.specs.declared.axis.Axis.{Axis}
use Rattle.wal_shape.specs.declared.opening.Opening as single
use Rattle.wal_shape.specs.declared.body.BodyFault.{BodyFault}
use Rattle.wal_shape.specs.declared.body.BodyFault.TheVariants as field
use Rattle.wal_shape.specs.EncodingProof.{EncodingProof}
use Rattle.wal_shape.specs.Shape.{most_bytes, shard_count}
use Rattle.wal_shape.specs.Spelling.{body_text}
use Rattle.wal_shape.specs.MetadataReading.{spelled_metadata}
use Rattle.wal_shape.specs.FieldReading.{◌>>=◌, number_at, run_at}
use Rattle.wal_shape.specs.BodyReading.{body_at}
use Rattle.wal_shape.specs.ProofReading.{axis_of, openings_in}
use Rattle.wal_frame.specs.declared.fields.Target.{Target}
use Rattle.wal_frame.specs.declared.frame.FrameError.{FrameError}
use Rattle.wal_frame.specs.declared.frame.FrameError.TheVariants.{Truncated, BadKind, BadField}
use Rattle.wal_frame.specs.declared.frame.FrameError.TheVariants.{Trailing}
use Rattle.wal_frame.specs.Frame.{Frame, Metadata, Sliver, Opening, Proof, Read, Symbol, Ack}
use Rattle.wal_frame.specs.Frame.{Attest, Forget, Answer, Clash, RegisterEntry, AckEntry}
use Rattle.wal_frame.specs.Frame.{AttestEntry}

-- the place of a bad field is below n
abbrev pub IsPlaceBelow : ℕ → FrameError → Type 0
IsPlaceBelow n Truncated = ⊤
IsPlaceBelow n BadKind = ⊤
IsPlaceBelow n (BadField place) = place < n
IsPlaceBelow n Trailing = ⊤

-- a fault in a part that begins at this place, as a fault of the frame
abbrev pub fault_from : ℕ → BodyFault → FrameError
fault_from start field.Truncated = Truncated
fault_from start (field.BadField place) = BadField (start + place)

abbrev pub from_place : {A : Type 0} → ℕ → Result A BodyFault → Result A FrameError
from_place start (Ok x) = Ok x
from_place start (Err fault) = Err (fault_from start fault)

-- a fault in a field whose place is counted from the kind, as a fault of the frame
abbrev pub frame_fault : BodyFault → FrameError
frame_fault field.Truncated = Truncated
frame_fault (field.BadField place) = BadField place

abbrev pub in_frame : {A : Type 0} → Result A BodyFault → Result A FrameError
in_frame (Ok x) = Ok x
in_frame (Err fault) = Err (frame_fault fault)

-- a number of at most `most`, in a field at this place, and the bytes after it
abbrev pub field_at : Width → ℕ → ℕ → List ℕ → Result (ℕ × List ℕ) FrameError
field_at width place most bytes = in_frame (number_at width place most bytes)

-- n bytes, and the bytes after them
abbrev pub bytes_at : ℕ → List ℕ → Result (List ℕ × List ℕ) FrameError
bytes_at n bytes = in_frame (run_at n bytes)

-- an axis, and the bytes after it
unfoldable pub axis_at : ℕ → List ℕ → Result (Axis × List ℕ) FrameError
axis_at place bytes = do
  axis ← field_at w8 place 1 bytes
  Ok (axis_of axis.0, axis.1)

-- an identifier, an axis and an index, and the bytes after them
abbrev pub target_with : List ℕ → Axis → ℕ → Target
target_with id axis index = record { id = record { 0 = id }; axis = axis; index = index }

unfoldable pub target_at : List ℕ → Result (Target × List ℕ) FrameError
target_at bytes = do
  id ← bytes_at 32 bytes
  axis ← axis_at 33 id.1
  index ← field_at w16 34 999 axis.1
  Ok (target_with id.0 axis.0 index.0, index.1)

-- what is read, if no byte is left behind it
abbrev pub ended : {A : Type 0} → A → List ℕ → Result A FrameError
ended x rest = if length rest == 0 then Ok x else Err Trailing

-- f, from 1 to 333, and the bytes after it
unfoldable pub faults_at : ℕ → List ℕ → Result (ℕ × List ℕ) FrameError
faults_at place bytes = do
  f ← field_at w16 place 333 bytes
  if f.0 == 0 then Err (BadField place) else Ok f

-- the bytes after f, the length and the pairs of roots, which stand from this place on
unfoldable pub roots_at : ℕ → List ℕ → Result (List ℕ) FrameError
roots_at place bytes = do
  f ← faults_at place bytes
  blob_length ← field_at w64 (place + 2) most_bytes f.1
  pairs ← bytes_at (64 * shard_count f.0) blob_length.1
  Ok pairs.1

-- the metadata of the first format, behind the kind
unfoldable pub metadata_at : List ℕ → Result Frame FrameError
metadata_at bytes = do
  rest ← roots_at 1 bytes
  ended (Metadata (spelled_metadata bytes)) rest

-- the version, which is 2, and the bytes after it
unfoldable pub version_at : List ℕ → Result (ℕ × List ℕ) FrameError
version_at bytes = do
  version ← field_at w8 1 2 bytes
  if version.0 == 2 then Ok version else Err (BadField 1)

-- the metadata of the second format, behind the kind
unfoldable pub metadata2_at : List ℕ → Result Frame FrameError
metadata2_at bytes = do
  version ← version_at bytes
  rest ← roots_at 2 version.1
  ended (Metadata (spelled_metadata bytes)) rest

-- the sliver behind the kind
unfoldable pub sliver_at : List ℕ → Result Frame FrameError
sliver_at bytes = do
  target ← target_at bytes
  size ← field_at w32 36 most_bytes target.1
  content ← bytes_at size.0 size.1
  ended (Sliver target.0.id.0 target.0.axis target.0.index content.0) content.1

-- the opening whose body begins at this place, and the bytes after it
abbrev pub opening_at : ℕ → List ℕ → Result (single.Opening × List ℕ) FrameError
opening_at place bytes = from_place place (body_at bytes)

-- the opening behind the kind
unfoldable pub opened_at : List ℕ → Result Frame FrameError
opened_at bytes = do
  target ← target_at bytes
  body ← opening_at 36 target.1
  ended (Opening target.0.id.0 target.0.axis target.0.index body.0) body.1

-- the bytes after n opening bodies, of which the first begins at this place
unfoldable pub bodies_at : ℕ → ℕ → List ℕ → Result (List ℕ) FrameError
bodies_at zero place bytes = Ok bytes
bodies_at (suc n) place bytes = do
  body ← opening_at place bytes
  bodies_at n (place + length (body_text body.0)) body.1

abbrev pub proof_with : Axis → ℕ → List single.Opening → EncodingProof
proof_with axis index openings = record { axis = axis; index = index; openings = openings }

-- the proof behind the kind
unfoldable pub proof_at : List ℕ → Result Frame FrameError
proof_at bytes = do
  target ← target_at bytes
  count ← field_at w16 36 1000 target.1
  rest ← bodies_at count.0 38 count.1
  ended
      (Proof target.0.id.0 (proof_with target.0.axis target.0.index (openings_in count.0 count.1)))
      rest

-- the identifier behind the kind, and nothing else
unfoldable pub name_at : List ℕ → Result (List ℕ) FrameError
name_at bytes = do
  id ← bytes_at 32 bytes
  ended id.0 id.1

-- the sliver whose symbols are asked for, behind the kind
unfoldable pub symbol_at : List ℕ → Result Frame FrameError
symbol_at bytes = do
  target ← target_at bytes
  ended (Symbol target.0.id.0 target.0.axis target.0.index) target.1

-- the answer behind the kind
unfoldable pub answer_at : List ℕ → Result Frame FrameError
answer_at bytes = do
  code ← field_at w8 1 15 bytes
  a ← field_at w32 2 4294967295 code.1
  b ← field_at w32 6 4294967295 a.1
  ended (Answer code.0 a.0 b.0) b.1

-- a text behind its size, which stands at this place, and the bytes after it
unfoldable pub text_at : ℕ → List ℕ → Result (List ℕ × List ℕ) FrameError
text_at place bytes = do
  size ← field_at w8 place 65 bytes
  bytes_at size.0 size.1

-- the two texts behind the kind
unfoldable pub clash_at : List ℕ → Result Frame FrameError
clash_at bytes = do
  left ← text_at 1 bytes
  right ← text_at (2 + length left.0) left.1
  ended (Clash left.0 right.0) right.1

-- the registration behind the kind
unfoldable pub register_at : List ℕ → Result Frame FrameError
register_at bytes = do
  id ← bytes_at 32 bytes
  until ← field_at w32 33 65536 id.1
  ended (RegisterEntry id.0 until.0) until.1

-- the shard and the identifier behind the kind, and nothing else
unfoldable pub entry_at : List ℕ → Result (ℕ × List ℕ) FrameError
entry_at bytes = do
  shard ← field_at w16 1 999 bytes
  id ← bytes_at 32 shard.1
  ended (shard.0, id.0) id.1

-- the frame made from what was read, or the fault
abbrev pub made : {A : Type 0} → (A → Frame) → Result A FrameError → Result Frame FrameError
made frame (Ok x) = Ok (frame x)
made frame (Err fault) = Err fault

-- the request, answer or entry of this kind, or the first fault
unfoldable pub request_at : ℕ → List ℕ → Result Frame FrameError
request_at kind bytes =
    if kind == 0x20 then made Read (name_at bytes)
    else (if kind == 0x21 then symbol_at bytes
    else (if kind == 0x22 then made Ack (name_at bytes)
    else (if kind == 0x23 then made Attest (name_at bytes)
    else (if kind == 0x24 then made Forget (name_at bytes)
    else (if kind == 0x30 then answer_at bytes
    else (if kind == 0x31 then clash_at bytes
    else (if kind == 0x40 then register_at bytes
    else (if kind == 0x41 then made (λ pair. AckEntry pair.0 pair.1) (entry_at bytes)
    else (if kind == 0x42 then made (λ pair. AttestEntry pair.0 pair.1) (entry_at bytes)
    else Err BadKind)))))))))

-- the frame of this kind, or the first fault
unfoldable pub fields_at : ℕ → List ℕ → Result Frame FrameError
fields_at kind bytes =
    if kind == 0x10 then metadata_at bytes
    else (if kind == 0x11 then sliver_at bytes
    else (if kind == 0x12 then opened_at bytes
    else (if kind == 0x13 then proof_at bytes
    else (if kind == 0x14 then metadata2_at bytes
    else request_at kind bytes))))

-- the frame that the bytes spell, or the first fault
unfoldable pub read_of : List ℕ → Result Frame FrameError
read_of [] = Err Truncated
read_of (kind ∷ bytes) = fields_at kind bytes
