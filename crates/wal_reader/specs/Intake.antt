-- What a reader keeps of the stream that it is fed.
use Rattle.std.specs.Prelude.{◌≡◌, ℕ, ◌+◌, ◌<◌, List, [], ◌∷◌, ◌++◌, length, All}
use Rattle.wal_frame.specs.Frame.{envelope}
use Rattle.wal_frame.specs.Front.{IsPart, IsWrong}
use Rattle.wal_frame.specs.Stream.{IsPayload, IsStream}
use Rattle.wal_reader.specs.Heard.{HeardState, HasHeard}

-- what was heard of the payloads of whole envelopes; how many bytes were taken; where the envelope
-- begins that is not complete, its bytes, and how many there is room for; and how many bytes are
-- missing of one that is read past
pub record IntakeState : Type 0 where
  pub heard : HeardState
  pub taken : ℕ
  pub place : ℕ
  pub kept : List ℕ
  pub room : ℕ
  pub missing : ℕ

-- whole envelopes with these payloads fill the front of the stream, and the rest is a part of one
pub record IsCut (payloads : List (List ℕ)) (front rest stream : List ℕ) : Type 0 where
  pub parts : stream ≡ front ++ rest
  pub whole : IsStream payloads front
  pub part : IsPart rest

-- whole envelopes fill exactly the bytes before this place, and the next byte begins none
pub record IsWrongAt (place : ℕ) (stream : List ℕ) : Type 0 where
  pub payloads : List (List ℕ)
  pub front : List ℕ
  pub rest : List ℕ
  pub parts : stream ≡ front ++ rest
  pub size : length front ≡ place
  pub whole : IsStream payloads front
  pub wrong : IsWrong rest

abbrev pub AreBytes : List ℕ → Type 0
AreBytes bytes = All (λ byte. byte < 256) bytes

-- with any `missing` more bytes the part of an envelope is whole, and what was heard is as if its
-- payload had been heard
abbrev pub ReadsPast : (List ℕ → List ℕ) → List ℕ → HeardState → List (List ℕ) → ℕ → List ℕ → Type 0
ReadsPast digest id heard payloads missing rest =
    (more : List ℕ) → length more ≡ missing
    → (sender : ℕ) × (payload : List ℕ) × IsPayload payload
    × (rest ++ more ≡ envelope sender payload)
    × (AreBytes more → HasHeard digest id heard (payloads ++ payload ∷ []))

-- the part of an envelope is kept, or it is read past
pub data KeepsPart (digest : List ℕ → List ℕ) (id : List ℕ) (intake : IntakeState)
    (payloads : List (List ℕ)) (rest : List ℕ) : Type 0 where
  kept : intake.missing ≡ 0 → rest ≡ intake.kept → KeepsPart digest id intake payloads rest
  past : 0 < intake.missing → intake.kept ≡ []
      → ReadsPast digest id intake.heard payloads intake.missing rest
      → KeepsPart digest id intake payloads rest

-- the stream was taken
pub record StandsAt (digest : List ℕ → List ℕ) (id : List ℕ)
    (intake : IntakeState) (stream : List ℕ) : Type 0 where
  pub payloads : List (List ℕ)
  pub front : List ℕ
  pub rest : List ℕ
  pub cut : IsCut payloads front rest stream
  pub heard : HasHeard digest id intake.heard payloads
  pub taken : length stream ≡ intake.taken
  pub place : length front ≡ intake.place
  pub keeps : KeepsPart digest id intake payloads rest
