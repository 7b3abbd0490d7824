-- Streams: envelopes one after the other.
use Rattle.std.specs.Prelude.{◌≡◌, ℕ, zero, suc, ◌+◌, ◌<◌, ◌^◌, List, [], ◌∷◌, ◌++◌, length, take}
use Rattle.std.specs.Prelude.{drop, slice_index, Option, Some, None, Result, Ok, Err, nat_lt, ◌==◌}
use Rattle.std.specs.Prelude.{if◌then◌else◌, ⊤}
use Rattle.std.specs.Int.{w32, from_be_bytes}
use Rattle.wal_frame.specs.declared.stream.SplitError.{SplitError}
use Rattle.wal_frame.specs.declared.stream.SplitError.TheVariants.{Malformed, Memory}
use Rattle.wal_frame.specs.Frame.{envelope}

-- the payloads that an envelope can hold
abbrev pub IsPayload : List ℕ → Type 0
IsPayload payload = length payload < 2 ^ 32

-- the length of the payload, which stands behind the first byte and the sender
abbrev pub size_in : List ℕ → ℕ
size_in bytes = from_be_bytes w32 (take 4 (drop 3 bytes))

-- `size` bytes as the payload, and the bytes after them
abbrev pub payload_at : ℕ → List ℕ → Option (List ℕ × List ℕ)
payload_at size bytes =
    if nat_lt (length bytes) size then None else Some (take size bytes, drop size bytes)

-- the payload of the envelope that the bytes begin with, and the bytes after the envelope
unfoldable pub envelope_at : List ℕ → Option (List ℕ × List ℕ)
envelope_at bytes =
    if nat_lt (length bytes) 7 then None
    else (if slice_index bytes 0 == 0x57 then payload_at (size_in bytes) (drop 7 bytes) else None)

-- payloads whose envelopes have n bytes, and those of the bytes that follow
abbrev pub behind : List (List ℕ) → ℕ → Result (List (List ℕ)) ℕ → Result (List (List ℕ)) ℕ
behind payloads n (Ok others) = Ok (payloads ++ others)
behind payloads n (Err place) = Err (n + place)

-- the payload of the envelope at the front, and those of the envelopes after it
abbrev pub front_of : Option (List ℕ × List ℕ) → (List ℕ → Result (List (List ℕ)) ℕ)
    → Result (List (List ℕ)) ℕ
front_of None others = Err 0
front_of (Some pair) others = behind (pair.0 ∷ []) (7 + length pair.0) (others pair.1)

-- the payloads of a stream of at most n envelopes, or the place where no whole envelope begins
unfoldable pub payloads_in : ℕ → List ℕ → Result (List (List ℕ)) ℕ
payloads_in n [] = Ok []
payloads_in zero (byte ∷ bytes) = Err 0
payloads_in (suc n) (byte ∷ bytes) = front_of (envelope_at (byte ∷ bytes)) (payloads_in n)

-- the payloads of a stream, or the place where no whole envelope begins
abbrev pub stream_of : List ℕ → Result (List (List ℕ)) ℕ
stream_of bytes = payloads_in (length bytes) bytes

-- what is said of the place, if the stream is malformed
abbrev pub IfMalformed : SplitError → (ℕ → Type 0) → Type 0
IfMalformed (Malformed place) IsSaid = IsSaid place
IfMalformed Memory IsSaid = ⊤

-- what splitting returned is what the stream has, unless memory ran out
abbrev pub Splits : Result (List (List ℕ)) SplitError → Result (List (List ℕ)) ℕ → Type 0
Splits (Ok payloads) read = read ≡ Ok payloads
Splits (Err (Malformed place)) read = read ≡ Err place
Splits (Err Memory) read = ⊤

-- the bytes are the envelopes of these payloads, one after the other, each from some sender
abbrev pub IsStream : List (List ℕ) → List ℕ → Type 0
IsStream [] bytes = bytes ≡ []
IsStream (payload ∷ payloads) bytes =
    (sender : ℕ) × (rest : List ℕ) × IsPayload payload × (bytes ≡ envelope sender payload ++ rest)
    × IsStream payloads rest

-- whole envelopes fill exactly the bytes before this place, and others follow that begin with no
-- whole envelope
pub record IsMalformed (place : ℕ) (bytes : List ℕ) : Type 0 where
  pub front : List ℕ
  pub payloads : List (List ℕ)
  pub rest : List ℕ
  pub parts : bytes ≡ front ++ rest
  pub size : length front ≡ place
  pub whole : IsStream payloads front
  pub more : rest ≡ [] → ⊥
  pub unfit : (sender : ℕ) (payload after : List ℕ) → IsPayload payload
      → rest ≡ envelope sender payload ++ after → ⊥
