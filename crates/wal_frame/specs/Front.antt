-- What bytes begin with: a whole envelope, a part of one, or a byte that begins none.
use Rattle.std.specs.Prelude.{◌≡◌, ℕ, List, [], ◌∷◌, ◌++◌, Option, Some, None, ⊤}
use Rattle.wal_frame.specs.declared.frame.Envelope.{Envelope}
use Rattle.wal_frame.specs.declared.frame.Envelope.TheVariants.{Whole, Part, Wrong}
use Rattle.wal_frame.specs.Frame.{envelope}
use Rattle.wal_frame.specs.Stream.{IsPayload}

-- no whole envelope stands at the front
abbrev pub BeginsNone : List ℕ → Type 0
BeginsNone bytes =
    (sender : ℕ) (payload after : List ℕ) → IsPayload payload
    → bytes ≡ envelope sender payload ++ after → ⊥

-- no bytes, or the front of an envelope that is not complete
abbrev pub IsPart : List ℕ → Type 0
IsPart [] = ⊤
IsPart (byte ∷ bytes) = (byte ≡ 0x57) × BeginsNone (byte ∷ bytes)

-- a byte that begins no envelope
abbrev pub IsWrong : List ℕ → Type 0
IsWrong [] = ⊥
IsWrong (byte ∷ bytes) = byte ≡ 0x57 → ⊥

-- what the bytes begin with: a whole envelope, a part of one, or a wrong byte
abbrev pub BeginsWith : Envelope → List ℕ → Type 0
BeginsWith (Whole sender payload rest) bytes =
    IsPayload payload.now × (bytes ≡ envelope sender payload.now ++ rest.now)
BeginsWith Part bytes = IsPart bytes
BeginsWith Wrong bytes = IsWrong bytes

-- the payload and the bytes after the envelope, if it is whole
abbrev pub whole_in : Envelope → Option (List ℕ × List ℕ)
whole_in (Whole sender payload rest) = Some (payload.now, rest.now)
whole_in Part = None
whole_in Wrong = None

-- this is a whole envelope with this sender, payload and rest
abbrev pub IsWhole : Envelope → ℕ → List ℕ → List ℕ → Type 0
IsWhole (Whole sender payload rest) who bytes after =
    (sender ≡ who) × (payload.now ≡ bytes) × (rest.now ≡ after)
IsWhole Part who bytes after = ⊥
IsWhole Wrong who bytes after = ⊥
