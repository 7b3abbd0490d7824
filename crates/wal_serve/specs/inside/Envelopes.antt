-- Taking one envelope from a source.
use Rattle.std.specs.Prelude.{◌≡◌, ℕ, ◌<◌, ◌≤◌, ◌^◌, List, [], ◌∷◌, ◌++◌, length, Option, Some}
use Rattle.std.specs.Prelude.{None, Result, Ok, Err}
use Rattle.std.specs.Int.{w16, w32}
use Rattle.std.specs.Io.KnownBytes.{Consumes, IsAtEnd}
use Rattle.wal_shape.specs.Spelling.{number_text}
use Rattle.wal_frame.specs.Frame.{envelope}
use Rattle.wal_frame.specs.Front.{IsPart}
use Rattle.wal_frame.specs.Stream.{IsPayload}
use Rattle.wal_serve.specs.declared.taking.Took.{Took}
use Rattle.wal_serve.specs.declared.taking.Took.TheVariants as took
use Rattle.wal_serve.specs.declared.envelopes.Lack.{Lack}
use Rattle.wal_serve.specs.declared.envelopes.Lack.TheVariants.{Nothing, Wrong, Cut, TooLong}
use Rattle.wal_serve.specs.declared.envelopes.Lack.TheVariants.{Failed}
use Rattle.wal_serve.specs.inside.Payload.{PayloadRoom}

-- why no whole envelope was taken, if at most `most` bytes may be taken, and the bytes that the
-- source lost: there were none; the first one begins no envelope; the source ended in an envelope;
-- it had one byte more than may be taken; or a read failed
pub data Lacks (left after : Option (List ℕ)) (Rose : Type 0) (most : ℕ) : Lack → List ℕ
    → Type 0 where
  nothing : Consumes left after [] → IsAtEnd after → Lacks left after Rose most Nothing []
  wrong : (byte : ℕ) → Consumes left after (byte ∷ []) → (byte ≡ 0x57 → ⊥) → 1 ≤ most
      → Lacks left after Rose most Wrong (byte ∷ [])
  cut : (got : List ℕ) → Consumes left after got → IsPart got → 0 < length got → length got ≤ most
      → IsAtEnd after → Lacks left after Rose most Cut got
  too_long : (got : List ℕ) (byte : ℕ) → Consumes left after (got ++ byte ∷ []) → IsPart got
      → length got ≡ most → Lacks left after Rose most TooLong (got ++ byte ∷ [])
  failed : (got : List ℕ) → Consumes left after got → IsPart got → length got ≤ most → Rose
      → Lacks left after Rose most Failed got

-- why there is no whole envelope, if not all its bytes behind the first one were taken
abbrev pub lack_of : Took → Option Lack
lack_of took.Whole = None
lack_of took.Ended = Some Cut
lack_of took.TooLong = Some TooLong
lack_of took.Failed = Some Failed

-- the first byte of an envelope, or none
abbrev pub TakesFirst : Option (List ℕ) → Option (List ℕ) → Type 0 → ℕ → Result (Unit {0}) Lack
    → List ℕ → Type 0
TakesFirst left after Rose most (Ok done) got =
    (got ≡ 0x57 ∷ []) × Consumes left after got × (1 ≤ most)
TakesFirst left after Rose most (Err lack) got = Lacks left after Rose most lack got

-- what stands before a payload of this size
pub record IsHead (size : ℕ) (got : List ℕ) : Type 0 where
  pub sender : ℕ
  pub fits : size < 2 ^ 32
  pub text : got ≡ 0x57 ∷ (number_text w16 sender ++ number_text w32 size)

-- the head of an envelope, or no whole envelope
abbrev pub TakesHead : Option (List ℕ) → Option (List ℕ) → Type 0 → ℕ → Result ℕ Lack → List ℕ
    → Type 0
TakesHead left after Rose most (Ok size) got =
    IsHead size got × Consumes left after got × (length got ≤ most)
TakesHead left after Rose most (Err lack) got = Lacks left after Rose most lack got

-- an envelope whose payload has this size, and is in the buffer if the buffer has room for it
pub record IsEnvelope (size : ℕ) (buffer : PayloadRoom) (got : List ℕ) : Type 0 where
  pub sender : ℕ
  pub payload : List ℕ
  pub long : length payload ≡ size
  pub fits : IsPayload payload
  pub text : got ≡ envelope sender payload
  pub kept : size ≤ buffer.room → buffer.bytes ≡ payload

-- an envelope, or none
abbrev pub TakesEnvelope : Option (List ℕ) → Option (List ℕ) → Type 0 → ℕ → PayloadRoom
    → Result ℕ Lack → List ℕ → Type 0
TakesEnvelope left after Rose most buffer (Ok size) got =
    IsEnvelope size buffer got × Consumes left after got × (length got ≤ most)
TakesEnvelope left after Rose most buffer (Err lack) got = Lacks left after Rose most lack got
